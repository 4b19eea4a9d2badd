use Rattle.std.specs.Int.{w128}
use Rattle.std.proofs.lemmas.Nat.Bits.{bit_at_set_same, bit_at_set_other}
use Rattle.server_core.proofs.availability.with_bit.Goals as goal

pub returns-clause-there : goal.returns-clause-there
returns-clause-there c = bit_at_set_same w128 c.args.word c.args.place c.requires

pub returns-clause-others : goal.returns-clause-others
returns-clause-others c = λ i _ other. bit_at_set_other w128 c.args.word c.args.place c.requires i other
