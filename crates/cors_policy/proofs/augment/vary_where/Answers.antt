use Rattle.std.proofs.Common.{rules}
use Rattle.cors_policy.proofs.augment.vary_where.Goals as goal

pub returns-then-policy-clause-ok : goal.returns-then-policy-clause-ok
returns-then-policy-clause-ok g c = search rules
