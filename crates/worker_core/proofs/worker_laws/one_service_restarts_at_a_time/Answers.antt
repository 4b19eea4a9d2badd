use Rattle.worker_core.proofs.WorkerCoreRuns.{kept_run}
use Rattle.worker_core.proofs.worker_laws.one_service_restarts_at_a_time.Goals as goal

pub returns : goal.returns
returns c = λ listeners calls some fits may. (kept_run listeners calls some fits may).one_restarts
