use Rattle.worker_core.proofs.WorkerCoreRuns.{available_each}
use Rattle.worker_core.proofs.worker_laws.an_available_worker_has_each_service.Goals as goal

pub returns : goal.returns
returns c = available_each
