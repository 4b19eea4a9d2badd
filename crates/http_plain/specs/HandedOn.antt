-- What the parts of the program hand on.
use Rattle.std.specs.Prelude.{ℕ, List, [], map, Option, Some, None, Result, Ok, Err}
use Rattle.httparse.specs.Grammar.{Field, LineEnd}
use Rattle.http1_grammar.specs.Headers.{Header}
use Rattle.http1_grammar.specs.Head.{Head, header_of}
use Rattle.http1_grammar.specs.RequestText.{RequestLine}
use Rattle.http1_grammar.specs.Next.{Next, nothing, refuse, found}
use Rattle.http1_grammar.specs.Body as grammar
use Rattle.http1_grammar.specs.Answers.{Answers, done, after}
use Rattle.http_plain.specs.declared.status.Status.{Status}
use Rattle.http_plain.specs.declared.piece.Piece.{Piece}
use Rattle.http_plain.specs.declared.piece.Piece.TheVariants.{Undecided, Refused, Chunk, Last}
use Rattle.http_plain.specs.declared.body.Body.{Body}
use Rattle.http_plain.specs.declared.body.Body.TheVariants.{Unfinished, Malformed, Whole}
use Rattle.http_plain.specs.Statuses.{number_of}

-- the headers of a section's fields
abbrev pub headers_of : List Field × LineEnd → List Header
headers_of section = map header_of section.0

-- the head that a request line begins
abbrev pub begun_head : RequestLine → Head
begun_head start = record { method = start.method; target = start.target; minor = start.minor; headers = [] }

-- a step as a result: a refused status is the error
abbrev pub step_by : Result (Option (Head × List ℕ)) Status → Next
step_by (Ok None) = nothing
step_by (Ok (Some parts)) = found parts.0 parts.1
step_by (Err status) = refuse (number_of status)

abbrev pub piece_of : Piece → grammar.Piece
piece_of Undecided = grammar.undecided
piece_of (Refused status) = grammar.refused (number_of status)
piece_of (Chunk content rest) = grammar.chunk content.now rest.now
piece_of (Last rest) = grammar.last rest.now

abbrev pub body_of : Body → grammar.Body
body_of Unfinished = grammar.unfinished
body_of (Malformed status) = grammar.malformed (number_of status)
body_of (Whole content rest) = grammar.whole content rest

-- the answers of a turn, and those to the bytes behind it
abbrev pub turned : (List ℕ → Answers) → List ℕ → Option (List ℕ) → Answers
turned answers written None = (written, done)
turned answers written (Some rest) = after written (answers rest)
