use Rattle.std.proofs.Common.{length}
use Rattle.cors_plain.proofs.headers.+get.Given as goal

abbrev pub decreases-get : goal.decreases-get
decreases-get l = length l.headers.now
