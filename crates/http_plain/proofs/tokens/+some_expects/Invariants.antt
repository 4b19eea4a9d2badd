use Rattle.std.proofs.Common.{length}
use Rattle.http_plain.proofs.tokens.+some_expects.Given as goal

abbrev pub decreases-some_expects : goal.decreases-some_expects
decreases-some_expects l = length l.fields.now
