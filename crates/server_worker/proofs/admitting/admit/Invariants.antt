use Rattle.std.proofs.Common.{length}
use Rattle.std.specs.VecDeque.{deque_len}
use Rattle.server_worker.specs.Polled.{Admits}
use Rattle.server_worker.specs.Sound.{IsSound}
use Rattle.server_worker.proofs.admitting.admit.Given as goal

abbrev pub invariant-loop : goal.invariant-loop
invariant-loop g l = Admits g.L.Link.identity l.fn.hand l.hand × IsSound g.F.Factory.Service.Future.Future g.F.Factory.Service.Future.LinkHolder.may_stand (g.F.ServerServiceFactory.may_serve l.fn.factory) (g.F.ServerServiceFactory.may_leave l.fn.factory) (g.F.ServerServiceFactory.may_make l.fn.factory) (length l.fn.services.slots.items) l.hand

abbrev pub decreases-loop : goal.decreases-loop
decreases-loop g l = deque_len l.hand.queue
