use Rattle.std.proofs.Common.{◌≡◌, ℕ, true, sym, subst, take}
use Rattle.std.specs.List.{list_all}
use Rattle.std.specs.Char.{is_ascii_hexdigit}
use Rattle.http_plain.proofs.ChunkSteps.{digits_are}
use Rattle.http_plain.proofs.chunk_line.size_of.Goals as goal

pub hex_number-requires-clause-digits : goal.hex_number-requires-clause-digits
hex_number-requires-clause-digits c =
    subst (λ (n : ℕ). list_all is_ascii_hexdigit (take n c.args.text.now) ≡ true) (sym c.hex_len-count.ensures.value) (digits_are c.args.text.now)
