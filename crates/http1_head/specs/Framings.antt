-- A framing under a limit on the body's bytes.
use Rattle.std.specs.Prelude.{ℕ, if◌then◌else◌, nat_lt}
use Rattle.http1_grammar.specs.Framing as grammar
use Rattle.http1_head.specs.declared.framing.Framing.{Framing}
use Rattle.http1_head.specs.declared.framing.Framing.TheVariants.{Empty, Sized, TooLarge, Chunked, Faulty}

abbrev pub capped : ℕ → grammar.Framing → Framing
capped most grammar.empty = Empty
capped most (grammar.sized size) = if nat_lt most size then TooLarge else Sized size
capped most grammar.chunked = Chunked
capped most grammar.faulty = Faulty
