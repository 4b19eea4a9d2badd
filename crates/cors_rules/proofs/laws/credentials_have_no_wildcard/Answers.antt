use Rattle.cors_rules.proofs.WildcardSteps.{augmented_own, preflight_own}
use Rattle.cors_rules.proofs.laws.credentials_have_no_wildcard.Goals as goal

pub returns-clause-preflight : goal.returns-clause-preflight
returns-clause-preflight g c = preflight_own

pub returns-clause-augmented : goal.returns-clause-augmented
returns-clause-augmented g c = augmented_own
