use Rattle.std.proofs.Common.{◌≡◌, ℕ, IsFalse}
use Rattle.futures.specs.Task.{Keeps}
use Rattle.worker_core.specs.Statuses.{is_asked}
use Rattle.worker_core.specs.WorkerCore.{status_of}
use Rattle.server_worker.specs.Standing.{AllMade, AreSlots}
use Rattle.server_worker.proofs.AskSteps.{CheckedTo}
use Rattle.server_worker.proofs.readiness.check_readiness.Given as goal

abbrev pub invariant-loop-token : goal.invariant-loop-token
invariant-loop-token g l = CheckedTo (g.F.ServerServiceFactory.may_ready l.fn.factory) l.fn.services.slots.items l.fn.services.core l.services.slots.items l.services.core l.token
    × AreSlots g.F.Factory.Future.Future g.F.Factory.Service.Service g.F.Factory.Service.Future.LinkHolder.may_stand (g.F.ServerServiceFactory.may_serve l.fn.factory) (g.F.ServerServiceFactory.may_leave l.fn.factory)
    (g.F.ServerServiceFactory.may_ready l.fn.factory) (g.F.ServerServiceFactory.may_init l.fn.factory) (g.F.ServerServiceFactory.may_make l.fn.factory) l.services.slots.items
    × AllMade l.services.slots.items × (l.services.made ≡ l.fn.services.made) × (l.services.factories ≡ l.fn.services.factories) × Keeps l.fn.cx l.cx
    × (IsFalse l.moved → (t : ℕ) → is_asked (status_of l.services.core t) ≡ is_asked (status_of l.fn.services.core t))
