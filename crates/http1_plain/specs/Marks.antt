-- Marks of names: each name has one of 1,024, which several names may share.
use Rattle.std.specs.Prelude.{ℕ, Bool, ◌+◌, ◌*◌, ◌/◌, ◌%◌, ◌==◌, List, fold, slice_index, IsTrue, All}
use Rattle.std.specs.Int.{bit_at}
use Rattle.http1_grammar.specs.Headers.{Header}
use Rattle.http1_plain.specs.declared.name_marks.NameMarks.{NameMarks}

abbrev pub mark_of : List ℕ → ℕ
mark_of name = fold (λ (mark b : ℕ). (mark * 31 + b) % 1024) 0 name

-- the bit of the number is set
abbrev pub has_bit : List ℕ → ℕ → Bool
has_bit words at = bit_at (slice_index words (at / 64)) (at % 64) == 1

-- the mark of the name is set
unfoldable pub has_mark : NameMarks → List ℕ → Bool
has_mark marks name = has_bit marks.words (mark_of name)

-- the marks of all names of the headers are set
abbrev pub IsMarked : NameMarks → List Header → Type 0
IsMarked marks headers = All (λ (header : Header). IsTrue (has_mark marks header.0)) headers
