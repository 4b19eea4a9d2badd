use Rattle.bench_turns.specs.Going.{Goes}
use Rattle.bench_turns.proofs.turning.turn_on.Given as goal

abbrev pub invariant-loop : goal.invariant-loop
invariant-loop g l = Goes g.F.Factory.ServiceFactory g.F.Factory.Future.Future g.F.Factory.Service.Service g.F.Factory.Service.Future.Future g.F.Factory.Service.Future.LinkHolder.may_stand
    g.F.ServerServiceFactory.may_serve g.F.ServerServiceFactory.may_leave g.F.ServerServiceFactory.may_ready g.F.ServerServiceFactory.may_init
    g.F.ServerServiceFactory.may_make l.worker
