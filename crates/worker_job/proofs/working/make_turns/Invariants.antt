use Rattle.server_worker.specs.Workers.{hand_of}
use Rattle.worker_job.specs.Working.{Announces, CanTurn, Turns}
use Rattle.worker_job.proofs.working.make_turns.Given as goal

abbrev pub invariant-loop : goal.invariant-loop
invariant-loop g l = Announces (hand_of l.fn.worker) (hand_of l.worker) × Turns g.F.Factory.Service.Future.Future g.F.Factory.Service.Future.LinkHolder.may_stand g.L.Link.identity g.F.ServerServiceFactory.may_serve g.F.ServerServiceFactory.may_leave g.F.ServerServiceFactory.may_make l.fn.worker l.worker
    × CanTurn g.F.Factory.ServiceFactory g.F.Factory.Future.Future g.F.Factory.Service.Service g.F.Factory.Service.Future.Future g.F.Factory.Service.Future.LinkHolder.may_stand g.F.ServerServiceFactory.may_serve g.F.ServerServiceFactory.may_leave g.F.ServerServiceFactory.may_ready g.F.ServerServiceFactory.may_init g.F.ServerServiceFactory.may_make l.worker
