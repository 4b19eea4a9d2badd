use Rattle.worker_job.proofs.JobSteps.{gives_up}
use Rattle.worker_job.proofs.worker_job.WorkerJobJob.work.Goals as goal

pub returns-in-Ok : goal.returns-in-Ok
returns-in-Ok g c = c.run.ensures c.args.self (record { parcels = c.in-Ok.ensures.ends.0; notes = c.in-Ok.ensures.ends.1; same_factory = c.in-Ok.ensures.factory; as_many = c.in-Ok.ensures.listeners })

pub returns-in-Err : goal.returns-in-Err
returns-in-Err g c = gives_up _ _ _ _ _ _ _ c.args.self _ c.in-Err.ensures.refused.0 c.in-Err.ensures.refused.1 c.in-Err.ensures.refused.2 c.give_up.ensures
