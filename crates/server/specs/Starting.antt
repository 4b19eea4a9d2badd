-- Workers from their start on.
use Rattle.std.specs.Prelude.{◌≡◌, ◌⊎◌, ◌≤◌, ◌<◌, ℕ, [], ◌+◌, ◌-◌, ◌^◌, min, false, All}
use Rattle.std.specs.List.{list_any}
use Rattle.rtrb.specs.Ring.{IsPair, producer_capacity, received, sent}
use Rattle.service_core.specs.Link.{Identity}
use Rattle.service_core.specs.Meaning.{Readiness}
use Rattle.service_core.specs.declared.ended.Ended.{Ended}
use Rattle.server_jobs.specs.Jobs.{job_of}
use Rattle.server_jobs.specs.Joins.{IsBalanced}
use Rattle.server_jobs.specs.Parcels.{is_stop}
use Rattle.server_jobs.specs.declared.line.Line.{Line}
use Rattle.server_run.specs.Creating.{HasMeaningOf}
use Rattle.server_run.specs.Serving.{MayFault}
use Rattle.server.specs.Rows.{ByJob, Row}
use Rattle.server.specs.Tales.{IsTale}
use Rattle.worker_job.specs.Jobs.{factory_of, listeners_of, notes_of, parcels_of}
use Rattle.worker_job.specs.declared.worker_job.WorkerJob.{WorkerJob}

module _ {F L E I : Type 0} (may_serve : F → ℕ → L → Ended L → Type 0) (may_leave : F → ℕ → L → L → Type 0) (may_ready : F → ℕ → Readiness E → Type 0)
    (may_init : F → ℕ → I → Type 0) (may_make : F → ℕ → Type 0) where
  -- Workers may start for a factory and so many listeners: a clone of the factory has its meaning.
  pub record MayStart (is_clone : F → F → Type 0) (factory : F) (listeners : ℕ) : Type 0 where
    pub some : 0 < listeners
    pub few : listeners ≤ 64
    pub clones : (copy : F) → is_clone factory copy → HasMeaningOf may_serve may_leave may_ready may_init may_make factory copy

  -- One of so many workers runs for a factory and so many listeners, over the other ends of the line's rings. Where another one had
  -- them before it, each connection that had come was sent back when it began, and what was sent back is true.
  pub record RunsFor {O : Type 0} (identity : L → Identity) (workers : ℕ) (factory : F) (listeners : ℕ) (line : Line L (WorkerJob L F) O) : Type 0 where
    pub to_it : IsPair line.parcels (parcels_of (job_of line.running))
    pub from_it : IsPair (notes_of (job_of line.running)) line.notes
    pub place : 0 < producer_capacity (notes_of (job_of line.running))
    pub balanced : IsBalanced identity (parcels_of (job_of line.running)) (notes_of (job_of line.running))
    pub told : All (IsTale workers (MayFault (may_ready factory) (may_init factory) listeners) (may_serve factory) (may_leave factory) (may_make factory) listeners (received (parcels_of (job_of line.running)))) (sent (notes_of (job_of line.running)))
    pub unstopped : list_any is_stop (received (parcels_of (job_of line.running))) ≡ false
    pub began : (sent (notes_of (job_of line.running)) ≡ []) ⊎ MayFault (may_ready factory) (may_init factory) listeners
    pub means : HasMeaningOf may_serve may_leave may_ready may_init may_make factory (factory_of (job_of line.running))
    pub as_many : listeners_of (job_of line.running) ≡ listeners

  -- It was just started: nothing went from here, and nothing came back.
  pub record IsStarted {O : Type 0} (identity : L → Identity) (workers : ℕ) (factory : F) (listeners : ℕ) (line : Line L (WorkerJob L F) O) : Type 0 where
    pub runs : RunsFor identity workers factory listeners line
    pub unsent : sent (notes_of (job_of line.running)) ≡ []
    pub sent_none : sent line.parcels ≡ []
    pub received_none : received line.notes ≡ []

  -- the same of a worker's place
  abbrev pub HasStarted : {O : Type 0} → (L → Identity) → ℕ → F → ℕ → Row L (WorkerJob L F) O → Type 0
  HasStarted identity workers factory listeners row = ByJob (IsStarted identity workers factory listeners) (λ p n. ⊥) row

-- A count rose by n, or stands at its last value.
pub record RoseBy (n before now : ℕ) : Type 0 where
  pub at_least : min (before + n) (2 ^ 64 - 1) ≤ now
  pub at_most : now ≤ before + n

-- so many were started, and more only where workers may end by faults
pub record Started (may_fault : Type 0) (n before now : ℕ) : Type 0 where
  pub at_least : min (before + n) (2 ^ 64 - 1) ≤ now
  pub at_most : (now ≤ before + n) ⊎ may_fault
