use Rattle.std.proofs.Common.{◌≡◌, Some, sym}
use Rattle.std.specs.Arc.{arc_value}
use Rattle.http1_dispatcher.specs.Dispatching.{start_of}
use Rattle.http1_dispatcher.proofs.Handing.{hands_over, upgrading}
use Rattle.http1_dispatcher.proofs.upgrade.hand_over.Goals as goal

pub returns-clause-upgrades : goal.returns-clause-upgrades
returns-clause-upgrades g c =
    let inner = c.args.inner in
    let is = rw (c.new.ensures, c.into_unread.ensures, c.into_inner.ensures) at c.of-seen.ensures in
    let part : (arc_value inner.terms.flow).upgrade ≡ Some c.in-Some.upgrade = rw c.deref.ensures at c.in-Some.is in
    let begun = rw (sym c.of-seen.ensures) at c.call.ensures in
    upgrading g.L.Link _ _ g.U.Service g.U.Future.Future g.U.Future.LinkHolder.may_stand _ _ (arc_value inner.terms.flow).upgrade c.in-Some.upgrade
    part c.requires.upgradable (rw c.new-future.ensures.future begun)
    (rw c.new-future.ensures.future (g.met.U.Service.begun_gives _ _ _ begun))
    (hands_over g.L.Link _ (start_of inner.terms) g.S.Future.Future g.X.Future.Future _ inner.exchange inner.awaited _ _ c.in-Upgrading.is c.requires.handing.out is c.requires.going)
