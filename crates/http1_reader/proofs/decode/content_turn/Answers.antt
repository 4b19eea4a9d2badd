use Rattle.std.proofs.Common.{refl}
use Rattle.http1_reader.proofs.DecodeSteps.{content_waits, content_refused, content_gains}
use Rattle.http1_reader.proofs.decode.content_turn.Goals as goal

pub returns-in-Open-clause-ok : goal.returns-in-Open-clause-ok
returns-in-Open-clause-ok c = content_waits c.args.limits c.args.left.now c.args.decoded.now c.args.line c.args.size c.requires.sized c.in-Open.ensures

pub returns-in-Faulty-clause-ok : goal.returns-in-Faulty-clause-ok
returns-in-Faulty-clause-ok c = (
  refl,
  content_refused c.args.limits c.args.left.now c.args.decoded.now c.args.line c.args.size c.requires.sized c.in-Faulty.ensures,
)

pub returns-in_ok-push_all-in-Whole-clause-ok : goal.returns-in_ok-push_all-in-Whole-clause-ok
returns-in_ok-push_all-in-Whole-clause-ok c =
    content_gains c.args.limits c.args.left.now c.args.decoded.now c.args.line c.args.size c.requires.sized _ c.requires.fits c.in-Whole.ensures
    c.in_ok-push_all-in-Whole.ensures.ok
