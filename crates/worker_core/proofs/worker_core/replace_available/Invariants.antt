-- The services before the index are replaced, and the others are as they were.
use Rattle.std.proofs.Common.{◌≡◌, ◌++◌, take, drop}
use Rattle.worker_core.specs.WorkerCore.{with_available}
use Rattle.worker_core.proofs.worker_core.replace_available.Given as goal

abbrev pub invariant-loop-service : goal.invariant-loop-service
invariant-loop-service l =
    l.services ≡ with_available l.status (take l.service-index l.initial.services) ++ drop l.service-index l.initial.services
