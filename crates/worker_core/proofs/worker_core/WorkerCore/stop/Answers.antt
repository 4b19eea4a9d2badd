-- Services that were available stop.
use Rattle.std.proofs.Common.{refl}
use Rattle.worker_core.proofs.WorkerCoreSteps.{kept_stopped, refill-map}
use Rattle.worker_core.proofs.worker_core.WorkerCore.stop.Goals as goal

pub invariant_of-self : goal.invariant_of-self
invariant_of-self c =
    rw (c.replace_available.ensures, c.as_mut_slice.ensures.value, refill-map) (kept_stopped _ refl refl _ c.self.invariant)

pub invariant_of-self-2 : goal.invariant_of-self-2
invariant_of-self-2 c =
    rw (c.replace_available-2.ensures, c.as_mut_slice-2.ensures.value, refill-map) (kept_stopped _ refl refl _ c.self.invariant)
