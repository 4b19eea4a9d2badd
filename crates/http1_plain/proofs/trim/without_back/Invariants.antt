use Rattle.std.proofs.Common.{◌≡◌, length, reverse}
use Rattle.httparse.specs.Grammar.{skip_ows}
use Rattle.http1_plain.proofs.trim.without_back.Given as goal

abbrev pub invariant-loop-left : goal.invariant-loop-left
invariant-loop-left l = skip_ows (reverse l.left) ≡ skip_ows (reverse l.part)

abbrev pub decreases-loop-left : goal.decreases-loop-left
decreases-loop-left l = length l.left
