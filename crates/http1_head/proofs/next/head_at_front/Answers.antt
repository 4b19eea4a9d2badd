use Rattle.std.proofs.Common.{◌≡◌, ℕ, List, take, length, min, sym, ap, subst, ◌∙◌, arith}
use Rattle.std.specs.Prelude.{bytes_eq}
use Rattle.std.proofs.lemmas.Result.{IfOk-weaker}
use Rattle.http1_head.specs.Passing.{EndsFrom}
use Rattle.http1_head.proofs.PassingSteps.{seen_window}
use Rattle.http1_head.proofs.NextSteps.{alone, alone_seen, front_judged, front_long, front_short, front_begins, front_seen, judged_looks}
use Rattle.http1_head.proofs.next.head_at_front.Goals as goal

window_is : (m most head : ℕ) (text : List ℕ) → m ≡ min most (length text) → most ≡ head → m ≡ min head (length text)
window_is m most head text p q = cc

pub returns-then-eq-clause-step : goal.returns-then-eq-clause-step
returns-then-eq-clause-step c = alone c.args.limits c.args.text.now (ap (bytes_eq c.args.text.now) (sym c.as_slice.ensures) ∙ sym c.if-eq.ensures)

pub returns-then-eq-clause-looks : goal.returns-then-eq-clause-looks
returns-then-eq-clause-looks c =
    alone_seen c.args.limits c.args.text.now c.head-most.ensures.above (ap (bytes_eq c.args.text.now) (sym c.as_slice.ensures) ∙ sym c.if-eq.ensures)

pub head_size_from-requires-clause-passed : goal.head_size_from-requires-clause-passed
head_size_from-requires-clause-passed c =
    subst (EndsFrom (take c.min.result c.args.text.now)) (sym c.saturating_sub.ensures)
    (seen_window c.args.limits c.args.text.now c.args.seen c.min.result c.requires.seen
    (window_is c.min.result c.head-most.result c.args.limits.head c.args.text.now c.min.ensures c.head-most.ensures.value))

pub judge-requires-clause-begins : goal.judge-requires-clause-begins
judge-requires-clause-begins c = front_begins c.args.text.now c.min.result c.in-Some.size.len c.requires.begins c.in-Some.ensures.value

pub returns-in-Some-clause-step : goal.returns-in-Some-clause-step
returns-in-Some-clause-step c =
    IfOk-weaker c.judge.result _ _ (λ x p. p ∙ front_judged c.args.limits c.args.text.now c.min.result c.in-Some.size.len
    (ap (bytes_eq c.args.text.now) (sym c.as_slice.ensures) ∙ sym c.if-eq.ensures)
    (window_is c.min.result c.head-most.result c.args.limits.head c.args.text.now c.min.ensures c.head-most.ensures.value) c.in-Some.ensures.value)
    (c.judge.ensures.step c.args.text.now)

pub returns-in-Some-clause-looks : goal.returns-in-Some-clause-looks
returns-in-Some-clause-looks c =
    IfOk-weaker c.judge.result _ _ (λ x p. judged_looks c.args.limits c.args.text.now _ _ x p) (c.judge.ensures.step c.args.text.now)

pub returns-then-text-most-clause-step : goal.returns-then-text-most-clause-step
returns-then-text-most-clause-step c =
    front_long c.args.limits c.args.text.now c.min.result
    (ap (bytes_eq c.args.text.now) (sym c.as_slice.ensures) ∙ sym c.if-eq.ensures)
    (window_is c.min.result c.head-most.result c.args.limits.head c.args.text.now c.min.ensures c.head-most.ensures.value) c.in-None.ensures.value
    (omega (arith, c.head-most.ensures.value, c.if-text-most.true))

pub returns-else-text-most-clause-step : goal.returns-else-text-most-clause-step
returns-else-text-most-clause-step c =
    front_short c.args.limits c.args.text.now c.min.result
    (ap (bytes_eq c.args.text.now) (sym c.as_slice.ensures) ∙ sym c.if-eq.ensures)
    (window_is c.min.result c.head-most.result c.args.limits.head c.args.text.now c.min.ensures c.head-most.ensures.value) c.in-None.ensures.value
    (omega (arith, c.head-most.ensures.value, c.if-text-most.false))

pub returns-else-text-most-clause-looks : goal.returns-else-text-most-clause-looks
returns-else-text-most-clause-looks c =
    front_seen c.args.limits c.args.text.now c.min.result
    (window_is c.min.result c.head-most.result c.args.limits.head c.args.text.now c.min.ensures c.head-most.ensures.value) c.in-None.ensures.value
    (omega (arith, c.head-most.ensures.value, c.if-text-most.false))
