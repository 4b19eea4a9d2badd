use Rattle.std.proofs.Common.{length}
use Rattle.http_plain.proofs.request_text.+skip_ows.Given as goal

abbrev pub decreases-skip_ows : goal.decreases-skip_ows
decreases-skip_ows l = length l.bytes.now
