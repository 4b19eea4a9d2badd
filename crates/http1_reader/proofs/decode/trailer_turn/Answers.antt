use Rattle.std.proofs.Common.{refl}
use Rattle.http1_reader.proofs.DecodeSteps.{trailer_waits, trailer_refused, trailer_done}
use Rattle.http1_reader.proofs.decode.trailer_turn.Goals as goal

pub returns-in-Open : goal.returns-in-Open
returns-in-Open c =
    trailer_waits c.args.limits c.args.left.now c.args.decoded.now c.args.line c.requires.last _ refl c.in-Open.ensures

pub returns-in-TooLarge : goal.returns-in-TooLarge
returns-in-TooLarge c = (
  refl,
  trailer_refused c.args.limits c.args.left.now c.args.decoded.now c.args.line c.requires.last c.in-TooLarge.ensures,
)

pub returns-in-Whole : goal.returns-in-Whole
returns-in-Whole c = (
  refl,
  trailer_done c.args.limits c.args.left.now c.args.decoded.now c.args.line c.requires.last c.in-Whole.len c.in-Whole.ensures,
)
