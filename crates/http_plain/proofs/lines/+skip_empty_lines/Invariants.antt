use Rattle.std.proofs.Common.{length}
use Rattle.http_plain.proofs.lines.+skip_empty_lines.Given as goal

abbrev pub decreases-skip_empty_lines : goal.decreases-skip_empty_lines
decreases-skip_empty_lines l = length l.bytes.now
