use Rattle.std.proofs.Common.{ℕ, sym, subst, ◌+◌, ◌*◌, refl}
use Rattle.http1_head.proofs.FramingSteps.{ValueFrom, value_above, value_more}
use Rattle.http_plain.proofs.framing.number_up_to.Goals as goal

pub returns-then-number-most : goal.returns-then-number-most
returns-then-number-most c =
    let digits = c.args.digits.now in
    let i = c.loop-digit.digit-index in
    let value = subst (λ (m : ℕ). ValueFrom digits (i + 1) (c.loop-digit.number * 10 + m)) (sym c.from.ensures)
    (value_more digits i c.loop-digit.number c.loop-digit-test.true c.requires.digits c.loop-digit.invariant.value) in
    rw (value_above digits (i + 1) _ c.args.most c.if-number-most.true value) refl
