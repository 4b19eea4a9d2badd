use Rattle.http1_dispatcher.specs.Dispatching.{may_upgrade, start_of}
use Rattle.http1_dispatcher.proofs.Handing.{later_ends}
use Rattle.http1_dispatcher.proofs.upgrade.Upgrade.into_link.Goals as goal

pub returns : goal.returns
returns g c =
    let self = c.args.self in
    let stands = rw c.into_inner.ensures at c.into_link.ensures in
    later_ends g.L.Link _ (start_of self.terms)
    (may_upgrade g.L.Link g.S.Service g.S.Error.ErrorResponse.response g.X.Service g.X.Error.ErrorResponse.response g.U.Service self.terms)
    self.asked.value c.requires.given c.into_link.result (c.requires.stands _ stands)
