use Rattle.std.proofs.Common.{rules}
use Rattle.cors_policy.proofs.requested.has_method.Goals as goal

pub returns : goal.returns
returns c = search rules
