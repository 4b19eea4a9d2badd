use Rattle.std.proofs.Common.{length}
use Rattle.cors_plain.proofs.texts.+and_names.Given as goal

abbrev pub decreases-and_names : goal.decreases-and_names
decreases-and_names l = length l.headers.now
