use Rattle.cors_rules.proofs.RefusalSteps.{judged_error, preflight_error}
use Rattle.cors_rules.proofs.laws.refusals_have_their_causes.Goals as goal

pub returns-clause-preflight : goal.returns-clause-preflight
returns-clause-preflight g c = preflight_error

pub returns-clause-blocked : goal.returns-clause-blocked
returns-clause-blocked g c = judged_error
