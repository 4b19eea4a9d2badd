use Rattle.server_jobs.specs.Jobs.{job_of}
use Rattle.worker_job.specs.Jobs.{notes_of, parcels_of}
use Rattle.worker_job.proofs.laws.a_line_to_a_worker_can_be_joined.Goals as goal

pub returns : goal.returns
returns g c line to_it from_it balanced = record {
  inward = parcels_of (job_of line.running);
  outward = notes_of (job_of line.running);
  to_it = to_it;
  from_it = from_it;
  balanced = balanced;
  accounts = λ out promised. promised.accounts;
}
