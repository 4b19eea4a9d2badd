use Rattle.std.proofs.Common.{◌≡◌, ◌≤◌, take}
use Rattle.futures.specs.Task.{Keeps}
use Rattle.server_worker.specs.Polled.{PolledFrom}
use Rattle.server_worker.proofs.polling.poll_from.Given as goal

abbrev pub invariant-loop-at : goal.invariant-loop-at
invariant-loop-at g l = Keeps l.fn.cx l.cx × PolledFrom g.F.Factory.Service.Future.Future g.F.Factory.Service.Future.LinkHolder.may_stand (g.F.ServerServiceFactory.may_serve l.fn.factory) (g.F.ServerServiceFactory.may_leave l.fn.factory) (g.F.ServerServiceFactory.may_make l.fn.factory) l.listeners g.L.Link.identity l.fn.hand l.hand l.at
    × (l.hand.resting ≡ 0) × (take l.at l.hand.live.items ≡ take l.at l.fn.hand.live.items) × (l.from ≤ l.at) × (l.hand.berths ≡ l.fn.hand.berths)

abbrev pub decreases-loop-at : goal.decreases-loop-at
decreases-loop-at g l = l.at
