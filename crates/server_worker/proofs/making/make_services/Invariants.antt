use Rattle.futures.specs.Task.{Keeps}
use Rattle.server_worker.specs.Standing.{IsSlot}
use Rattle.server_worker.proofs.MakeSteps.{MakesUpTo}
use Rattle.server_worker.proofs.making.make_services.Given as goal

abbrev pub invariant-loop-token : goal.invariant-loop-token
invariant-loop-token g l = Keeps l.fn.cx l.cx × MakesUpTo (λ t. IsSlot g.F.Factory.Future.Future g.F.Factory.Service.Service g.F.Factory.Service.Future.LinkHolder.may_stand (g.F.ServerServiceFactory.may_serve l.fn.factory t) (g.F.ServerServiceFactory.may_leave l.fn.factory t)
    (g.F.ServerServiceFactory.may_ready l.fn.factory t) (g.F.ServerServiceFactory.may_init l.fn.factory t) (g.F.ServerServiceFactory.may_make l.fn.factory t)) l.fn.slots.items l.slots.items l.token
