use Rattle.std.proofs.Common.{length}
use Rattle.cors_plain.proofs.headers.+without.Given as goal

abbrev pub decreases-without : goal.decreases-without
decreases-without l = length l.headers.now
