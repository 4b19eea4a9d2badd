use Rattle.std.proofs.Common.{◌≡◌, ℕ, true, length, slice_get}
use Rattle.std.specs.Prelude.{vec_capacity}
use Rattle.worker_core.specs.declared.service_status.ServiceStatus.TheVariants.{Unavailable}
use Rattle.server_worker.specs.Standing.{AreFactories, AreSlots, fits_at}
use Rattle.server_worker.proofs.beginning.begin_all.Given as goal

abbrev pub invariant-loop-token : goal.invariant-loop-token
invariant-loop-token g l =
    (length l.slots.items ≡ l.token) × (length l.factories.items ≡ l.token) × (vec_capacity l.slots ≡ l.fn.listeners) × (vec_capacity l.factories ≡ l.fn.listeners)
    × AreSlots g.F.Factory.Future.Future g.F.Factory.Service.Service g.F.Factory.Service.Future.LinkHolder.may_stand (g.F.ServerServiceFactory.may_serve l.fn.factory) (g.F.ServerServiceFactory.may_leave l.fn.factory)
    (g.F.ServerServiceFactory.may_ready l.fn.factory) (g.F.ServerServiceFactory.may_init l.fn.factory) (g.F.ServerServiceFactory.may_make l.fn.factory) l.slots.items
    × ((t : ℕ) → fits_at Unavailable (slice_get l.slots.items t) ≡ true)
    × AreFactories g.F.Factory.ServiceFactory g.F.Factory.Service.Future.LinkHolder.may_stand (g.F.ServerServiceFactory.may_serve l.fn.factory) (g.F.ServerServiceFactory.may_leave l.fn.factory)
    (g.F.ServerServiceFactory.may_ready l.fn.factory) (g.F.ServerServiceFactory.may_init l.fn.factory) (g.F.ServerServiceFactory.may_make l.fn.factory) l.factories.items
