use Rattle.std.proofs.Common.{◌≡◌, All, vec_len}
use Rattle.rtrb.specs.Ring.{received}
use Rattle.server_worker.specs.Leaving.{Gathers}
use Rattle.server_worker.specs.Sound.{Lives}
use Rattle.server_worker.proofs.leaving.gather_live.Given as goal

abbrev pub invariant-loop : goal.invariant-loop
invariant-loop g l = ((first : _) → Gathers g.L.Link.identity (g.F.ServerServiceFactory.may_leave l.fn.factory) first l.fn.hand → Gathers g.L.Link.identity (g.F.ServerServiceFactory.may_leave l.fn.factory) first l.hand)
    × (l.hand.queue ≡ l.fn.hand.queue)
    × All (Lives g.F.Factory.Service.Future.Future g.F.Factory.Service.Future.LinkHolder.may_stand (g.F.ServerServiceFactory.may_serve l.fn.factory) (g.F.ServerServiceFactory.may_leave l.fn.factory) (received l.hand.parcels)) l.hand.live.items

abbrev pub decreases-loop : goal.decreases-loop
decreases-loop g l = vec_len l.hand.live
