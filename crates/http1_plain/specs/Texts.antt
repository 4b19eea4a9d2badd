-- The bytes of a text, wherever they stand.
use Rattle.std.specs.Prelude.{ℕ, List}
use Rattle.http1_plain.specs.declared.text.Place.{Place}
use Rattle.http1_plain.specs.declared.text.Place.TheVariants.{Few, Shared, Owned}

abbrev pub bytes_at : Place → List ℕ
bytes_at (Few bytes alloc) = bytes.items
bytes_at (Shared bytes alloc) = bytes
bytes_at (Owned bytes) = bytes
