use Rattle.worker_job.proofs.JobSteps.{hands_over}
use Rattle.worker_job.proofs.working.run.Goals as goal

pub tell_fault-requires : goal.tell_fault-requires
tell_fault-requires g c = rw c.into_handed-handed.ensures.leaves.notes (c.turn_on-departure.ensures.turns.runs.accounts.spares c.requires.place)

pub returns : goal.returns
returns g c it made =
    hands_over g.F.Factory.Service.Future.Future g.F.Factory.Service.Future.LinkHolder.may_stand g.L.Link.identity g.F.ServerServiceFactory.may_serve g.F.ServerServiceFactory.may_leave g.F.ServerServiceFactory.may_ready g.F.ServerServiceFactory.may_init g.F.ServerServiceFactory.may_make it c.args.worker _ _ _ made c.requires.fresh c.turn_on-departure.ensures.turns
    c.into_handed-handed.ensures.leaves c.into_handed-handed.ensures.held c.into_handed-handed.ensures.factory _ c.into_handed-handed.ensures.departure c.turn_on-departure.ensures.departs c.turn_on-departure.ensures.signals c.tell_fault.ensures
