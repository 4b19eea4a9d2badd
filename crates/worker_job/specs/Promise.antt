-- What the job of a worker promises.
use Rattle.std.specs.Prelude.{◌≡◌, ◌⊎◌, ◌<◌, ◌≤◌, ◌+◌, ◌++◌, ◌∷◌, [], ℕ, Bool, true, false, List, All, Err, length, sum_by}
use Rattle.std.specs.List.{list_any}
use Rattle.futures.specs.declared.task.Poll.TheVariants.{Ready as PollReady}
use Rattle.rtrb.specs.Ring.{known_free, received, sent}
use Rattle.service_core.specs.Link.{Identity}
use Rattle.service_core.specs.Meaning.{Readiness}
use Rattle.service_core.specs.declared.ended.Ended.{Ended}
use Rattle.server_jobs.specs.Joins.{Accounts}
use Rattle.server_jobs.specs.declared.handed.Handed.{Handed}
use Rattle.server_jobs.specs.declared.note.Note.{Note}
use Rattle.server_jobs.specs.declared.note.Note.TheVariants.{Ready, Faulted as FaultedNote}
use Rattle.server_jobs.specs.declared.parcel.Parcel.{Parcel}
use Rattle.server_worker.specs.Leaving.{HasStayed}
use Rattle.server_worker.specs.Sound.{IsTold}
use Rattle.server_jobs.specs.Parcels.{is_stop}
use Rattle.server_worker.specs.Telling.{WeighsSignals}
use Rattle.worker_job.specs.Jobs.{factory_of, listeners_of, notes_of, parcels_of}
use Rattle.worker_job.specs.declared.departure.Departure.{Departure}
use Rattle.worker_job.specs.declared.departure.Departure.TheVariants.{Left, Unstarted, Faulted, Memory}
use Rattle.worker_job.specs.declared.worker_job.WorkerJob.{WorkerJob}

-- Its work may begin: it has listeners, and not too many, and a place of the ring back is known free.
pub record CanWork {L F : Type 0} (job : WorkerJob L F) : Type 0 where
  pub some : 0 < listeners_of job
  pub few : listeners_of job ≤ 64
  pub place : 0 < known_free (notes_of job)

-- it ended by a fault
abbrev pub is_fault : {E I : Type 0} → Departure E I → Bool
is_fault Left = false
is_fault (Unstarted token error) = true
is_fault (Faulted token readiness error) = true
is_fault Memory = true

-- Why a job left, which was stopped or not, and has so many connections left: only a fault of a service, before a stop, leaves any. That service is one of its listeners', and its errors are such as its readiness and its factory may answer.
abbrev pub IsDeparture : {E I : Type 0} → ℕ → (ℕ → Readiness E → Type 0) → (ℕ → I → Type 0) → Bool → ℕ → Departure E I → Type 0
IsDeparture listeners may_ready may_init stopped left Left = (stopped ≡ true) × (left ≡ 0)
IsDeparture listeners may_ready may_init stopped left (Unstarted token error) = (stopped ≡ false) × (token < listeners) × may_init token error
IsDeparture listeners may_ready may_init stopped left (Faulted token readiness error) = (stopped ≡ false) × (token < listeners) × may_ready token (PollReady (Err readiness)) × may_init token error
IsDeparture listeners may_ready may_init stopped left Memory = (stopped ≡ false) × (left ≡ 0)

-- Of the notes, these are the ones that hand no connection back.
abbrev pub AreSignals : {L : Type 0} → List (Note L) → List (Note L) → List (Note L) → Type 0
AreSignals {L} told owed signals = (f : Note L → ℕ) → WeighsSignals f → sum_by f told + sum_by f owed ≡ sum_by f signals

-- What a job tells of itself, by why it left: that its services stand, if they came to stand before it was stopped; and that it ends by a fault.
abbrev pub TellsOfItself : {L E I : Type 0} → (List (Note L) → Type 0) → Departure E I → Type 0
TellsOfItself tells Left = tells [] ⊎ tells (Ready ∷ [])
TellsOfItself tells (Unstarted token error) = tells (FaultedNote ∷ [])
TellsOfItself tells (Faulted token readiness error) = tells (Ready ∷ FaultedNote ∷ [])
TellsOfItself tells Memory = tells (FaultedNote ∷ [])

-- its last notes, by why it left: that it ends by a fault, if it does
abbrev pub last_notes : {L E I : Type 0} → Departure E I → List (Note L)
last_notes Left = []
last_notes (Unstarted token error) = FaultedNote ∷ []
last_notes (Faulted token readiness error) = FaultedNote ∷ []
last_notes Memory = FaultedNote ∷ []

-- What a job hands over: the ends of its rings with an account of them, its factory, true notes, connections that have not ended, and why it left.
pub record HandsOver {L F E I : Type 0} (identity : L → Identity) (may_serve : F → ℕ → L → Ended L → Type 0) (may_leave : F → ℕ → L → L → Type 0)
    (may_ready : F → ℕ → Readiness E → Type 0) (may_init : F → ℕ → I → Type 0) (may_make : F → ℕ → Type 0) (job : WorkerJob L F) (out : Handed L F (Departure E I)) : Type 0 where
  -- the same two ends; and each connection that it received is in a note that it sent or is handed over, once
  pub accounts : Accounts identity (parcels_of job) (notes_of job) out
  pub same_factory : out.factory ≡ factory_of job
  -- what it received
  pub taken : List (Parcel L)
  pub came : received out.parcels ≡ received (parcels_of job) ++ taken
  -- the notes that it sent, the last one of which tells of a fault, if that is why it left
  pub told : List (Note L)
  pub went : sent out.notes ≡ sent (notes_of job) ++ told
  pub last : (before : List (Note L)) × (told ≡ before ++ last_notes out.departure)
  -- these are true, and so are those that it owes
  pub true_told : All (IsTold (may_serve (factory_of job)) (may_leave (factory_of job)) (may_make (factory_of job)) (listeners_of job) (received out.parcels)) told
  pub true_owed : All (IsTold (may_serve (factory_of job)) (may_leave (factory_of job)) (may_make (factory_of job)) (listeners_of job) (received out.parcels)) out.owed.items
  pub stayed : All (HasStayed identity (may_leave (factory_of job)) (received out.parcels)) out.rest.items
  pub departs : IsDeparture (listeners_of job) (may_ready (factory_of job)) (may_init (factory_of job)) (list_any is_stop taken) (length out.rest.items) out.departure
  pub signals : TellsOfItself (AreSignals told out.owed.items) out.departure
