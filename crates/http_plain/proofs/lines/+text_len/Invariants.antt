use Rattle.std.proofs.Common.{length}
use Rattle.http_plain.proofs.lines.+text_len.Given as goal

abbrev pub decreases-text_len : goal.decreases-text_len
decreases-text_len l = length l.line.now
