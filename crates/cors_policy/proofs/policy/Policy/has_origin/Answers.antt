use Rattle.std.proofs.Common.{rules}
use Rattle.cors_policy.proofs.policy.Policy.has_origin.Goals as goal

pub returns-in-Some : goal.returns-in-Some
returns-in-Some g c = search rules
