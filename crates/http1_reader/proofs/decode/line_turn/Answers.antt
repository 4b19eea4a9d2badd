use Rattle.std.proofs.Common.{refl}
use Rattle.http1_reader.proofs.DecodeSteps.{room_is, line_waits, line_refused}
use Rattle.http1_reader.proofs.decode.line_turn.Goals as goal

pub returns-in-Open-clause-ok : goal.returns-in-Open-clause-ok
returns-in-Open-clause-ok c =
    line_waits c.args.limits c.args.left.now c.args.decoded.now _ _
    (room_is c.args.limits c.args.decoded.now c.body.result c.len.result c.body.ensures.value c.len.ensures) refl c.in-Open.ensures

pub returns-in-Refused-clause-ok : goal.returns-in-Refused-clause-ok
returns-in-Refused-clause-ok c = (
  refl,
  line_refused c.args.limits c.args.left.now c.args.decoded.now _ c.in-Refused.status
      (room_is c.args.limits c.args.decoded.now c.body.result c.len.result c.body.ensures.value c.len.ensures) c.in-Refused.ensures,
)
