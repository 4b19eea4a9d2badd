use Rattle.std.proofs.Common.{rules}
use Rattle.http1_plain.proofs.write.is_framing_name.Goals as goal

pub returns-else-eq-2 : goal.returns-else-eq-2
returns-else-eq-2 c = search rules
