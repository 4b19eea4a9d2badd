-- How far a body in chunks was decoded.
use Rattle.std.specs.Prelude.{◌≡◌, ◌≤◌, ◌<◌, ℕ, ◌-◌, List, ◌++◌, length, drop}
use Rattle.http1_grammar.specs.Limits.{Limits}
use Rattle.http1_grammar.specs.Body.{unfinished, malformed, whole, chunk, piece, chunks}
use Rattle.http1_grammar.specs.Reading.{settled}
use Rattle.http1_head.specs.Passing.{HasSeen}
use Rattle.http1_reader.specs.Pieces.{IsPassed, IsSized, IsLast}
use Rattle.http1_reader.specs.declared.decode.Part.{Part}
use Rattle.http1_reader.specs.declared.decode.Part.TheVariants.{Line, Content, Trailer}
use Rattle.http1_reader.specs.declared.decode.Turn.{Turn}
use Rattle.http1_reader.specs.declared.decode.Turn.TheVariants as turn
use Rattle.http1_reader.specs.declared.decode.Decoded.{Decoded}
use Rattle.http1_reader.specs.declared.decode.Decoded.TheVariants as decoded

-- how much data may follow
abbrev pub room : Limits → List ℕ → ℕ
room limits data' = limits.body - length data'

-- this part comes next in a body, behind these data
abbrev pub IsAt : Limits → List ℕ → List ℕ → Part → Type 0
IsAt limits left data' (Line seen) = IsPassed left seen
IsAt limits left data' (Content line size) = IsSized (room limits data') left line size
IsAt limits left data' (Trailer line seen) = IsLast (room limits data') left line × HasSeen limits (drop line left) seen

-- a chunk of so many bytes gave its data
pub record Gains (limits : Limits) (left before data' : List ℕ) (used : ℕ) : Type 0 where
  pub content : List ℕ
  pub is : piece (room limits before) left ≡ chunk content (drop used left)
  pub grown : data' ≡ before ++ content
  pub above : 0 < used
  pub within : used ≤ length left
  pub fits : length data' ≤ limits.body

-- more bytes decide this part
pub record Waits (limits : Limits) (left before data' : List ℕ) (part : Part) : Type 0 where
  pub same : data' ≡ before
  pub pending : chunks limits before left ≡ unfinished
  pub settles : settled limits before left ≡ (before, left)
  pub at : IsAt limits left before part

-- what a part led to
abbrev pub Turned : Limits → List ℕ → List ℕ → List ℕ → Turn → Type 0
Turned limits left before data' (turn.On used) = Gains limits left before data' used
Turned limits left before data' (turn.Wait part) = Waits limits left before data' part
Turned limits left before data' (turn.Refused status) =
    (data' ≡ before) × (chunks limits before left ≡ malformed status)
Turned limits left before data' (turn.Done used) =
    (data' ≡ before) × ((used ≤ length left) × (chunks limits before left ≡ whole before (drop used left)))

-- the chunks that are whole have so many bytes, and more bytes decide this part behind them
pub record IsOpen (limits : Limits) (bytes before data' : List ℕ) (used : ℕ) (part : Part) : Type 0 where
  pub within : used ≤ length bytes
  pub fits : length data' ≤ limits.body
  pub pending : chunks limits before bytes ≡ unfinished
  pub settles : settled limits before bytes ≡ (data', drop used bytes)
  pub at : IsAt limits (drop used bytes) data' part

-- how far the bytes behind some data were decoded
abbrev pub Decodes : Limits → List ℕ → List ℕ → List ℕ → Decoded → Type 0
Decodes limits bytes before data' (decoded.Open used part) = IsOpen limits bytes before data' used part
Decodes limits bytes before data' (decoded.Refused status) = chunks limits before bytes ≡ malformed status
Decodes limits bytes before data' (decoded.Whole used) =
    (used ≤ length bytes) × (chunks limits before bytes ≡ whole data' (drop used bytes))
