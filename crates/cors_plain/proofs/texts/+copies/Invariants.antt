use Rattle.std.proofs.Common.{length}
use Rattle.cors_plain.proofs.texts.+copies.Given as goal

abbrev pub decreases-copies : goal.decreases-copies
decreases-copies l = length l.texts.now
