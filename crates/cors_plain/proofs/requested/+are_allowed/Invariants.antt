use Rattle.std.proofs.Common.{length}
use Rattle.cors_plain.proofs.requested.+are_allowed.Given as goal

abbrev pub decreases-are_allowed : goal.decreases-are_allowed
decreases-are_allowed l = length l.items.now
