use Rattle.std.proofs.Common.{rules}
use Rattle.cors_answer.proofs.preflight.age_value.Goals as goal

pub returns-in-None : goal.returns-in-None
returns-in-None c = search rules
