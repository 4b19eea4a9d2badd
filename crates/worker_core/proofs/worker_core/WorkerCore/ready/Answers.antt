-- The service that answered has its new status.
use Rattle.std.proofs.Common.{ap}
use Rattle.worker_core.proofs.WorkerCoreSteps.{kept_ready, refill-set}
use Rattle.worker_core.proofs.worker_core.WorkerCore.ready.Goals as goal

pub invariant_of-self : goal.invariant_of-self
invariant_of-self c =
    rw (c.deref_mut.ensures.value, refill-set, c.answer_status-status.ensures) (kept_ready c.args.self.now _ _ _ (ap (λ w. w.services) c.self.view_is) c.self.invariant c.requires)
