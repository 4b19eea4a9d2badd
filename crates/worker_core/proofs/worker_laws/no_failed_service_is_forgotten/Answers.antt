use Rattle.worker_core.proofs.WorkerCoreRuns.{kept_run}
use Rattle.worker_core.proofs.worker_laws.no_failed_service_is_forgotten.Goals as goal

pub returns : goal.returns
returns c = λ listeners calls some fits may. (kept_run listeners calls some fits may).failed_waits
