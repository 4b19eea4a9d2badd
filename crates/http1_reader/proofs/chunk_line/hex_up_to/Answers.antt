use Rattle.std.proofs.Common.{ℕ, sym, subst, ◌+◌, ◌*◌, refl}
use Rattle.http1_reader.proofs.ChunkLineSteps.{HexFrom, hex_above, hex_more}
use Rattle.http1_reader.proofs.chunk_line.hex_up_to.Goals as goal

pub returns-then-number-most : goal.returns-then-number-most
returns-then-number-most c =
    let digits = c.args.digits.now in
    let i = c.loop-digit.digit-index in
    let value = subst (λ (m : ℕ). HexFrom digits (i + 1) (c.loop-digit.number * 16 + m)) (sym c.hex_digit.ensures.value)
    (hex_more digits i c.loop-digit.number c.loop-digit-test.true c.loop-digit.invariant.value) in
    rw (hex_above digits (i + 1) _ c.args.most c.if-number-most.true value) refl
