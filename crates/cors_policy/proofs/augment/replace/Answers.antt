use Rattle.std.proofs.Common.{rules}
use Rattle.cors_policy.proofs.augment.replace.Goals as goal

pub returns-in-Some : goal.returns-in-Some
returns-in-Some c = search rules
