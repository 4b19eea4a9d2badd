-- What the program's statuses are.
use Rattle.std.specs.Prelude.{ℕ, List, []}
use Rattle.http1_grammar.specs.Wire.{Response}
use Rattle.http_plain.specs.declared.status.Status.{Status}
use Rattle.http_plain.specs.declared.status.Status.TheVariants as is

abbrev pub number_of : Status → ℕ
number_of is.Ok = 200
number_of is.NoContent = 204
number_of is.BadRequest = 400
number_of is.NotFound = 404
number_of is.TooLarge = 413
number_of is.FieldsTooLarge = 431

-- the response of that status with this body
abbrev pub response_of : ℕ → List ℕ → Response
response_of status body = record { status = status; headers = []; body = body }
