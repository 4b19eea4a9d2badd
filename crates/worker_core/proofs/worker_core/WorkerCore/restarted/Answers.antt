-- The service was made again, and the first failed one follows.
use Rattle.std.proofs.Common.{◌∙◌, Some, None, ap, sym}
use Rattle.worker_core.proofs.WorkerCoreSteps.{kept_restarted, refill-set, refill-set_twice}
use Rattle.worker_core.proofs.worker_core.WorkerCore.restarted.Goals as goal

pub invariant_of-self : goal.invariant_of-self
invariant_of-self c =
    let read = rw (c.deref_mut.ensures.value, refill-set) at c.as_slice.ensures.value in
    let next = rw read at (sym c.first_failed.ensures ∙ c.in-Some.is) in
    rw (c.deref_mut-in-Some.ensures.value, c.deref_mut.ensures.value, refill-set_twice) (kept_restarted c.args.self.now _ _ (ap (λ w. w.services) c.self.view_is) c.self.invariant c.requires (Some c.in-Some.next) next)

pub invariant_of-self-in_default : goal.invariant_of-self-in_default
invariant_of-self-in_default c =
    let read = rw (c.deref_mut.ensures.value, refill-set) at c.as_slice.ensures.value in
    let next = rw read at (sym c.first_failed.ensures ∙ c.in_default.is) in
    rw (c.deref_mut.ensures.value, refill-set) (kept_restarted c.args.self.now _ _ (ap (λ w. w.services) c.self.view_is) c.self.invariant c.requires None next)
