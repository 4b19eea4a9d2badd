use Rattle.std.proofs.Common.{length}
use Rattle.cors_plain.proofs.bytes.+skip_ows.Given as goal

abbrev pub decreases-skip_ows : goal.decreases-skip_ows
decreases-skip_ows l = length l.bytes.now
