use Rattle.http1_dispatcher.specs.Dispatching.{may_upgrade, start_of}
use Rattle.http1_dispatcher.proofs.Handing.{handed_ends}
use Rattle.http1_dispatcher.proofs.upgrade.Upgrade.poll.Goals as goal

pub returns-in-Ready-Ok-clause-gives : goal.returns-in-Ready-Ok-clause-gives
returns-in-Ready-Ok-clause-gives g c =
    let self = c.args.self.now in
    let given = rw c.in-Ready-Ok.field-0-is at c.in-Ready-Ok.ensures.value in
    let may = c.requires.fits.1 _ given in
    rw c.how_of.ensures (handed_ends g.L.Link _ (start_of self.terms)
    (may_upgrade g.L.Link g.S.Service g.S.Error.ErrorResponse.response g.X.Service g.X.Error.ErrorResponse.response g.U.Service self.terms)
    self.asked.value c.requires.given c.in-Ready-Ok.handed.link c.in-Ready-Ok.handed.end may (c.requires.hands _ may))
