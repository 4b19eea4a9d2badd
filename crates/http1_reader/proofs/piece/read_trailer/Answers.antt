use Rattle.std.proofs.Common.{◌≡◌, ℕ, List, length, take, min, arith, sym, subst}
use Rattle.http1_head.specs.Passing.{EndsFrom}
use Rattle.http1_reader.proofs.PieceSteps.{trailer_from, trailer_empty, trailer_ends, trailer_long, trailer_open}
use Rattle.http1_reader.proofs.piece.read_trailer.Goals as goal

window_is : (m most head : ℕ) (left : List ℕ) → m ≡ min most (length left) → most ≡ head → m ≡ min head (length left)
window_is m most head left p q = cc

pub returns-in-Some : goal.returns-in-Some
returns-in-Some c =
    trailer_empty c.args.limits c.args.left.now c.min.result
    (window_is c.min.result c.head-most.result c.args.limits.head c.args.left.now c.min.ensures c.head-most.ensures.value)
    c.in-Some.len c.in-Some.ensures.within c.in-Some.ensures.value

pub head_size_from-requires-clause-passed : goal.head_size_from-requires-clause-passed
head_size_from-requires-clause-passed c =
    subst (EndsFrom (take c.min.result c.args.left.now)) (sym c.saturating_sub.ensures)
    (trailer_from c.args.limits c.args.left.now c.min.result
    (window_is c.min.result c.head-most.result c.args.limits.head c.args.left.now c.min.ensures c.head-most.ensures.value)
    c.args.seen c.requires)

pub returns-in-Some-head_size_from : goal.returns-in-Some-head_size_from
returns-in-Some-head_size_from c =
    trailer_ends c.args.limits c.args.left.now c.min.result
    (window_is c.min.result c.head-most.result c.args.limits.head c.args.left.now c.min.ensures c.head-most.ensures.value)
    c.in-Some-head_size_from.size.len c.in-Some-head_size_from.ensures.within c.in_default.ensures.value c.in-Some-head_size_from.ensures.value

pub returns-then-left-most : goal.returns-then-left-most
returns-then-left-most c =
    trailer_long c.args.limits c.args.left.now c.min.result
    (window_is c.min.result c.head-most.result c.args.limits.head c.args.left.now c.min.ensures c.head-most.ensures.value)
    c.in_default.ensures.value c.in-None.ensures.value (omega (arith, c.head-most.ensures.value, c.if-left-most.true))

pub returns-else-left-most : goal.returns-else-left-most
returns-else-left-most c =
    trailer_open c.args.limits c.args.left.now c.min.result
    (window_is c.min.result c.head-most.result c.args.limits.head c.args.left.now c.min.ensures c.head-most.ensures.value)
    c.in_default.ensures.value c.in-None.ensures.value (omega (arith, c.head-most.ensures.value, c.if-left-most.false))
