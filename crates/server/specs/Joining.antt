-- Workers that were joined.
use Rattle.std.specs.Prelude.{◌≡◌, ◌⊎◌, ◌++◌, ⊤, ℕ, Some, slice_get}
use Rattle.rtrb.specs.Ring.{known_items, received, sent}
use Rattle.service_core.specs.Link.{Identity}
use Rattle.std.specs.Prelude.{List}
use Rattle.server_jobs.specs.Jobs.{job_of}
use Rattle.server_jobs.specs.Joins.{EachOnce, Hands, IsLine}
use Rattle.server_jobs.specs.declared.handed.Handed.{Handed}
use Rattle.server_jobs.specs.declared.line.Joined.{Joined}
use Rattle.server_jobs.specs.declared.line.Line.{Line}
use Rattle.server_jobs.specs.declared.running.Running.{Running}
use Rattle.server.specs.Rows.{ByJob, Row}
use Rattle.worker_job.specs.declared.departure.Departure.{Departure}
use Rattle.worker_job.specs.declared.departure.Departure.TheVariants.{Unstarted, Faulted}

-- A line was joined: its job handed over what it promised, and what went over its rings is known.
pub record IsJoined {L F D J O : Type 0} (identity : L → Identity) (promise : J → O → Type 0) (handed : O → Handed L F D) (line : Line L J O) : Type 0 where
  pub joined : Joined L F D
  pub hands : Hands promise handed line joined
  pub same_sent : sent joined.parcels ≡ sent line.parcels
  pub same_received : received joined.notes ≡ received line.notes
  pub to_it : received joined.handed.parcels ++ known_items joined.handed.parcels ≡ sent joined.parcels
  pub from_it : received joined.notes ++ known_items joined.notes ≡ sent joined.handed.notes
  pub once : EachOnce identity joined

-- where a job runs, it can be joined
abbrev pub IsJoinable : {L F D J O : Type 0} → (L → Identity) → (J → O → Type 0) → (O → Handed L F D) → Row L J O → Type 0
IsJoinable identity promise handed row = ByJob (IsLine identity promise handed) (λ p n. ⊤) row

-- By what the job of a worker promised of what it handed over, the service of a token could not be made there, for the first time or anew.
pub record IsUnstarted {L F E I J O : Type 0} (promise : J → O → Type 0) (handed : O → Handed L F (Departure E I)) (rows : List (Row L J O)) (worker token : ℕ) (error : I) : Type 0 where
  pub row : Row L J O
  pub at : slice_get rows worker ≡ Some row
  pub running : Running J O
  pub runs : row.running ≡ Some running
  pub out : O
  pub promised : promise (job_of running) out
  pub departed : ((handed out).departure ≡ Unstarted token error) ⊎ ((readiness : E) × ((handed out).departure ≡ Faulted token readiness error))
