use Rattle.std.proofs.Common.{length}
use Rattle.http_plain.proofs.tokens.+some_lists.Given as goal

abbrev pub decreases-some_lists : goal.decreases-some_lists
decreases-some_lists l = length l.fields.now
