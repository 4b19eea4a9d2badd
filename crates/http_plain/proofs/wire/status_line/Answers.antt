use Rattle.std.proofs.Common.{refl}
use Rattle.http1_grammar.specs.Wire.{status_line}
use Rattle.http_plain.proofs.wire.status_line.Goals as goal

pub returns-in-Ok : goal.returns-in-Ok
unfolding status_line
returns-in-Ok c = rw c.in-Ok.is refl

pub returns-in-NoContent : goal.returns-in-NoContent
unfolding status_line
returns-in-NoContent c = rw c.in-NoContent.is refl

pub returns-in-BadRequest : goal.returns-in-BadRequest
unfolding status_line
returns-in-BadRequest c = rw c.in-BadRequest.is refl

pub returns-in-NotFound : goal.returns-in-NotFound
unfolding status_line
returns-in-NotFound c = rw c.in-NotFound.is refl

pub returns-in-TooLarge : goal.returns-in-TooLarge
unfolding status_line
returns-in-TooLarge c = rw c.in-TooLarge.is refl

pub returns-in-FieldsTooLarge : goal.returns-in-FieldsTooLarge
unfolding status_line
returns-in-FieldsTooLarge c = rw c.in-FieldsTooLarge.is refl
