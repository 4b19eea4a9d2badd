-- What a worker does in its job's thread.
use Rattle.std.specs.Prelude.{◌≡◌, ◌⊎◌, ◌+◌, ◌∷◌, [], ℕ, true, List, Result, sum_by}
use Rattle.futures.specs.declared.future.Future.{Ghosts as FutureOf}
use Rattle.service_core.specs.Link.{Identity}
use Rattle.service_core.specs.Meaning.{Readiness}
use Rattle.service_core.specs.declared.ended.Ended.{Ended}
use Rattle.service_core.specs.declared.service.Service.{Ghosts as ServiceOf}
use Rattle.service_core.specs.declared.service_factory.ServiceFactory.{Ghosts as FactoryOf}
use Rattle.server_jobs.specs.declared.note.Note.{Note}
use Rattle.server_jobs.specs.declared.note.Note.TheVariants.{Ready}
use Rattle.server_worker.specs.Leaving.{Runs}
use Rattle.server_worker.specs.Sound.{IsSound}
use Rattle.server_worker.specs.Telling.{WeighsSignals, newly, noted}
use Rattle.server_worker.specs.Turn.{Works}
use Rattle.server_worker.specs.Workers.{factory_of, hand_of, held_by, listeners_of, notes_of, parcels_of, services_of, stopped_of}
use Rattle.server_worker.specs.declared.connections.Connections.{Connections}
use Rattle.server_worker.specs.declared.worker.Worker.{Worker}
use Rattle.worker_job.specs.Jobs as job
use Rattle.worker_job.specs.Promise.{IsDeparture}
use Rattle.worker_job.specs.declared.departure.Departure.{Departure}
use Rattle.worker_job.specs.declared.departure.Departure.TheVariants.{Left, Unstarted, Faulted, Memory}
use Rattle.worker_job.specs.declared.worker_job.WorkerJob.{WorkerJob}

-- the worker may make a turn
abbrev pub CanTurn : {L F Fac E S I MFut Fut : Type 0} → FactoryOf Fac L (Ended L) E (Unit {0}) S I MFut Fut → FutureOf MFut (Result S I) → ServiceOf S L (Ended L) E Fut → FutureOf Fut (Result (Ended L) E)
    → (Fut → L → Type 0) → (F → ℕ → L → Ended L → Type 0) → (F → ℕ → L → L → Type 0) → (F → ℕ → Readiness E → Type 0) → (F → ℕ → I → Type 0) → (F → ℕ → Type 0) → Worker L F Fac E S I MFut Fut → Type 0
CanTurn fg mg sg g may_stand may_serve may_leave may_ready may_init may_make w =
    Works fg mg sg g may_stand (may_serve (factory_of w)) (may_leave (factory_of w)) (may_ready (factory_of w)) (may_init (factory_of w)) (may_make (factory_of w)) (services_of w) (hand_of w)

-- From a to b the worker made turns, with the same factory for as many listeners, and what it has is sound.
pub record Turns {L F Fac E S I MFut Fut : Type 0} (g : FutureOf Fut (Result (Ended L) E)) (may_stand : Fut → L → Type 0) (identity : L → Identity)
    (may_serve : F → ℕ → L → Ended L → Type 0) (may_leave : F → ℕ → L → L → Type 0) (may_make : F → ℕ → Type 0) (a b : Worker L F Fac E S I MFut Fut) : Type 0 where
  pub same_factory : factory_of b ≡ factory_of a
  pub as_many : listeners_of b ≡ listeners_of a
  pub sound : IsSound g may_stand (may_serve (factory_of b)) (may_leave (factory_of b)) (may_make (factory_of b)) (listeners_of b) (hand_of b)
  pub runs : Runs identity (may_serve (factory_of b)) (may_leave (factory_of b)) (may_make (factory_of b)) (listeners_of b) (hand_of a) (hand_of b)

-- why a worker left
abbrev pub Departs : {L F Fac E S I MFut Fut : Type 0} → (F → ℕ → Readiness E → Type 0) → (F → ℕ → I → Type 0) → Worker L F Fac E S I MFut Fut → Departure E I → Type 0
Departs may_ready may_init w departure = IsDeparture (listeners_of w) (may_ready (factory_of w)) (may_init (factory_of w)) (stopped_of w) (held_by w) departure

-- From a to b these signals were told, or are owed, and no others: notes that hand no connection back.
abbrev pub Says : {L Fut : Type 0} → Connections L Fut → Connections L Fut → List (Note L) → Type 0
Says {L} a b signals = (f : Note L → ℕ) → WeighsSignals f → noted f b ≡ noted f a + sum_by f signals

-- What it told of itself before its last note, by why it left: that its services stand, if they came to stand before it was stopped.
abbrev pub SaysBefore : {L E I Fut : Type 0} → Connections L Fut → Connections L Fut → Departure E I → Type 0
SaysBefore a b Left = Says a b [] ⊎ Says a b (Ready ∷ [])
SaysBefore a b (Unstarted token error) = Says a b []
SaysBefore a b (Faulted token readiness error) = Says a b (Ready ∷ [])
SaysBefore a b Memory = Says a b []

-- From a to b it was told, once at most, that all services stand, and no other signal was.
pub record Announces {L Fut : Type 0} (a b : Connections L Fut) : Type 0 where
  pub once : (f : Note L → ℕ) → WeighsSignals f → noted f b ≡ noted f a + newly (f Ready) a.told b.told
  pub stays : a.told ≡ true → b.told ≡ true

-- the worker is made of the parts of the job
pub record IsMadeOf {L F Fac E S I MFut Fut : Type 0} (w : Worker L F Fac E S I MFut Fut) (it : WorkerJob L F) : Type 0 where
  pub parcels : parcels_of w ≡ job.parcels_of it
  pub notes : notes_of w ≡ job.notes_of it
  pub same_factory : factory_of w ≡ job.factory_of it
  pub as_many : listeners_of w ≡ job.listeners_of it
