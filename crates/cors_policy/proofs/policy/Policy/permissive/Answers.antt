use Rattle.std.proofs.Common.{rules}
use Rattle.cors_policy.proofs.policy.Policy.permissive.Goals as goal

pub returns : goal.returns
returns g c = search rules
