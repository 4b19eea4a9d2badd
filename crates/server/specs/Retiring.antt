-- Why places have no worker any more.
use Rattle.std.specs.Prelude.{◌≡◌, ◌≤◌, ◌<◌, ⊤, ℕ, ◌+◌, ◌-◌, ◌^◌, min, List, All, Option, None, Some, IfSome, length, sum_by}
use Rattle.rtrb.specs.Ring.{sent}
use Rattle.server_jobs.specs.Jobs.{job_of}
use Rattle.server_jobs.specs.declared.running.Running.{Running}
use Rattle.worker_job.specs.Jobs.{notes_of}
use Rattle.worker_job.specs.declared.departure.Departure.{Departure}
use Rattle.worker_job.specs.declared.departure.Departure.TheVariants.{Left, Unstarted, Faulted, Memory}
use Rattle.worker_job.specs.declared.worker_job.WorkerJob.{WorkerJob}

-- it ended otherwise than by a service that had stood
abbrev pub IsUnfaulted : {E I : Type 0} → Departure E I → Type 0
IsUnfaulted Left = ⊤
IsUnfaulted (Unstarted token error) = ⊤
IsUnfaulted (Faulted token readiness error) = ⊥
IsUnfaulted Memory = ⊤

-- a service of one of so many listeners could not be made for the first time, with this token and error; or there was no memory
abbrev pub MayEndEarly : {I : Type 0} → (ℕ → I → Type 0) → ℕ → Option (ℕ × I) → Type 0
MayEndEarly may_init listeners error = IfSome error (λ e. (e.0 < listeners) × may_init e.0 e.1)

-- Since starts and refusals were counted so, so many places came to have no worker, and in so many others one replaced another. In each
-- place without one a replacement was refused, or was started and ended before its services stood.
pub record Retirements {I : Type 0} (may_init : ℕ → I → Type 0) (listeners vacant replaced : ℕ) (before now : ℕ × ℕ) : Type 0 where
  -- why those ended that were started
  pub ended : List (Option (ℕ × I))
  pub early : All (MayEndEarly may_init listeners) ended
  pub few : length ended ≤ vacant
  pub started : min (before.0 + (length ended + replaced)) (2 ^ 64 - 1) ≤ now.0
  pub refused : min (before.1 + (vacant - length ended)) (2 ^ 64 - 1) ≤ now.1

-- 1 where no worker is
abbrev pub vacancy : {J O : Type 0} → Option (Running J O) → ℕ
vacancy None = 1
vacancy (Some r) = 0

-- 1 where one replaced another: notes had gone from there before it began
abbrev pub succession : {L F O : Type 0} → Option (Running (WorkerJob L F) O) → ℕ
succession None = 0
succession (Some r) = min (length (sent (notes_of (job_of r)))) 1

-- the same of workers
abbrev pub AreRetired : {L F I O : Type 0} → (ℕ → I → Type 0) → ℕ → List (Option (Running (WorkerJob L F) O)) → ℕ × ℕ → ℕ × ℕ → Type 0
AreRetired may_init listeners rs before now = Retirements may_init listeners (sum_by vacancy rs) (sum_by succession rs) before now

-- all places have one, and each the first
pub record AreFirst {L F O : Type 0} (rs : List (Option (Running (WorkerJob L F) O))) : Type 0 where
  pub none_vacant : sum_by vacancy rs ≡ 0
  pub none_replaced : sum_by succession rs ≡ 0
