use Rattle.std.proofs.Common.{arith}
use Rattle.http_plain.proofs.ChunkSteps.{hex_fits}
use Rattle.http_plain.proofs.chunk_line.hex_number.Goals as goal

pub overflow_mul-number : goal.overflow_mul-number
overflow_mul-number c =
    let fits = hex_fits c.loop-digit.number c.loop-digit.digit-index _ c.loop-digit.invariant.below c.loop-digit-test.true c.requires.few in
    omega (arith, fits)

pub overflow_add-number : goal.overflow_add-number
overflow_add-number c =
    let fits = hex_fits c.loop-digit.number c.loop-digit.digit-index _ c.loop-digit.invariant.below c.loop-digit-test.true c.requires.few in
    omega (arith, fits, c.hex_digit.ensures.below)
