use Rattle.std.proofs.Common.{length}
use Rattle.http_plain.proofs.lines.+head_len.Given as goal

abbrev pub decreases-head_len : goal.decreases-head_len
decreases-head_len l = length l.bytes.now
