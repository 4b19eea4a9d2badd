use Rattle.std.proofs.Common.{rules}
use Rattle.cors_policy.proofs.policy.Policy.has_flags_of.Goals as goal

pub returns-then-self-other-4 : goal.returns-then-self-other-4
returns-then-self-other-4 g c = search rules
