use Rattle.std.proofs.Common.{length}
use Rattle.http_plain.proofs.tokens.+some_part_is.Given as goal

abbrev pub decreases-some_part_is : goal.decreases-some_part_is
decreases-some_part_is l = length l.parts.now
