use Rattle.std.proofs.Common.{length}
use Rattle.cors_plain.proofs.headers.+insert.Given as goal

abbrev pub decreases-insert : goal.decreases-insert
decreases-insert l = length l.headers.now
