use Rattle.std.proofs.Common.{length}
use Rattle.cors_plain.proofs.texts.+with.Given as goal

abbrev pub decreases-with : goal.decreases-with
decreases-with l = length l.texts.now
