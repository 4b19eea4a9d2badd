-- What a chunk line, a chunk's data and a trailer part at the front of bytes are.
use Rattle.std.specs.Prelude.{◌≡◌, ◌≤◌, ◌<◌, ℕ, ◌+◌, List, ◌++◌, length, take, drop, Option, Some, None, nat_lt, ◌==◌, if◌then◌else◌}
use Rattle.http1_grammar.specs.Limits.{Limits}
use Rattle.http1_grammar.specs.Lines.{cut_at}
use Rattle.http1_grammar.specs.Body.{unfinished, malformed, whole, undecided, refused, chunk, last, sized_chunk, piece, trailer}
use Rattle.http1_head.specs.Passing.{HasSeen}
use Rattle.http1_reader.specs.declared.chunk_line.ChunkLine.{ChunkLine}
use Rattle.http1_reader.specs.declared.chunk_line.ChunkLine.TheVariants as says
use Rattle.http1_reader.specs.declared.piece.Line.{Line}
use Rattle.http1_reader.specs.declared.piece.Line.TheVariants as line
use Rattle.http1_reader.specs.declared.piece.Content.{Content}
use Rattle.http1_reader.specs.declared.piece.Content.TheVariants as content
use Rattle.http1_reader.specs.declared.piece.Trailer.{Trailer}
use Rattle.http1_reader.specs.declared.piece.Trailer.TheVariants as part

-- what a chunk line with this size says, where there is room for so many bytes
abbrev pub line_by : ℕ → Option ℕ → ChunkLine
line_by room None = says.Bad
line_by room (Some size) = if nat_lt room size then says.TooLarge else (if size == 0 then says.Last else says.Sized size)

-- so many bytes of a chunk line were looked at, and none of them is an LF
pub record IsPassed (left : List ℕ) (seen : ℕ) : Type 0 where
  pub within : seen ≤ length left
  pub limited : seen ≤ 256
  pub no_feed : cut_at 10 (take seen left) ≡ None

-- whatever follows, a chunk of this size stands behind a line of so many bytes
pub record IsSized (room : ℕ) (left : List ℕ) (len size : ℕ) : Type 0 where
  pub above : 0 < len
  pub within : len ≤ length left
  pub fits : size ≤ room
  pub is : (more : List ℕ) → piece room (left ++ more) ≡ sized_chunk size (drop len left ++ more)

-- whatever follows, the last chunk's line has so many bytes
pub record IsLast (room : ℕ) (left : List ℕ) (len : ℕ) : Type 0 where
  pub within : len ≤ length left
  pub is : (more : List ℕ) → piece room (left ++ more) ≡ last (drop len left ++ more)

-- the bytes begin with such a line, where there is room for so much data
abbrev pub IsLine : ℕ → List ℕ → Line → Type 0
IsLine room left line.Open = (piece room left ≡ undecided) × IsPassed left (length left)
IsLine room left (line.Refused status) = piece room left ≡ refused status
IsLine room left (line.Last len) = IsLast room left len
IsLine room left (line.Sized len size) = IsSized room left len size

-- the bytes begin with such data of this size
abbrev pub IsContent : ℕ → List ℕ → Content → Type 0
IsContent size left content.Open = sized_chunk size left ≡ undecided
IsContent size left content.Faulty = sized_chunk size left ≡ refused 400
IsContent size left content.Whole =
    (size + 2 ≤ length left) × (sized_chunk size left ≡ chunk (take size left) (drop (size + 2) left))

-- the bytes begin with such a trailer part, whatever data stand before it
abbrev pub IsTrailer : Limits → List ℕ → Trailer → Type 0
IsTrailer limits left part.Open =
    ((data' : List ℕ) → trailer limits data' left ≡ unfinished) × HasSeen limits left (length left)
IsTrailer limits left part.TooLarge = (data' : List ℕ) → trailer limits data' left ≡ malformed 431
IsTrailer limits left (part.Whole len) =
    (len ≤ length left) × ((data' : List ℕ) → trailer limits data' left ≡ whole data' (drop len left))
