use Rattle.std.proofs.Common.{length}
use Rattle.http_plain.proofs.chunk_line.+is_crlf.Given as goal

abbrev pub decreases-is_crlf : goal.decreases-is_crlf
decreases-is_crlf l = length l.line.now
