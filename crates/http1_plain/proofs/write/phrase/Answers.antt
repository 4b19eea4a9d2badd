use Rattle.std.proofs.Common.{rules}
use Rattle.http1_plain.proofs.write.phrase.Goals as goal

pub returns-in-Ok : goal.returns-in-Ok
returns-in-Ok c = search rules
