use Rattle.std.proofs.Common.{length}
use Rattle.http_plain.proofs.lines.+position.Given as goal

abbrev pub decreases-position : goal.decreases-position
decreases-position l = length l.bytes.now
