-- Entries of a binder in memory.
use Rattle.std.proofs.Common.{List, ◌∷◌, Option, None, Some, All}
use Rattle.std.proofs.lemmas.List.Elements.{All-tail}
use Rattle.server_bind.specs.Stock.{listeners_in}

-- what holds of all listeners holds of those behind the first entry
pub behind_first : {Li : Type 0} (P : Li → Type 0) (first : Option Li) (entries : List (Option Li)) → All P (listeners_in (first ∷ entries)) → All P (listeners_in entries)
behind_first P None entries all = all
behind_first P (Some listener) entries all = All-tail P listener (listeners_in entries) all
