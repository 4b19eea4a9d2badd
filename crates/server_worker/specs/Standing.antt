-- What is known of the services of a worker.
use Rattle.std.specs.Prelude.{◌<◌, ◌&&◌, ◌||◌, not, ⊤, ℕ, Bool, true, List, length, Option, Some, None, slice_get, IfSome, Result, Ok, Err}
use Rattle.futures.specs.declared.task.Poll.TheVariants.{Ready as PollReady}
use Rattle.futures.specs.declared.future.Future.{Ghosts as FutureOf}
use Rattle.service_core.specs.Counts.{Rose}
use Rattle.service_core.specs.Meaning.{Readiness, Within}
use Rattle.service_core.specs.Shown.{wait_count, watched_future}
use Rattle.service_core.specs.declared.watched.Watched.{Watched}
use Rattle.service_core.specs.declared.ended.Ended.{Ended}
use Rattle.service_core.specs.declared.service.Service.{Ghosts as ServiceOf}
use Rattle.service_core.specs.declared.service_factory.ServiceFactory.{Ghosts as FactoryOf}
use Rattle.worker_core.specs.Statuses.{is_asked, is_available, is_failed, is_restarting}
use Rattle.worker_core.specs.declared.service_status.ServiceStatus.{ServiceStatus}
use Rattle.server_run.specs.Creating.{Creates, Stands}
use Rattle.server_worker.specs.declared.slot.Slot.{Slot}
use Rattle.server_worker.specs.declared.slot.Slot.TheVariants.{Making, Made, Failed, Remaking, Gone}

-- what the making of a token's service may answer: a service of the token, which the token makes, or one of its errors
abbrev pub MakesFor : {S L E I Fut : Type 0} → ServiceOf S L (Ended L) E Fut → (Fut → L → Type 0) → (L → Ended L → Type 0) → (L → L → Type 0)
    → (Readiness E → Type 0) → (I → Type 0) → Type 0 → Result S I → Type 0
MakesFor g may_stand may_serve may_leave may_ready may_init may_make (Ok service) = may_make × Stands g may_stand may_serve may_leave may_ready service
MakesFor g may_stand may_serve may_leave may_ready may_init may_make (Err error) = may_init error

-- a service that is being made may be polled, and becomes one of its token; one that stands is one; and of one that failed the error is one that its readiness may answer
abbrev pub IsSlot : {S L E I Fut MFut : Type 0} → FutureOf MFut (Result S I) → ServiceOf S L (Ended L) E Fut → (Fut → L → Type 0)
    → (L → Ended L → Type 0) → (L → L → Type 0) → (Readiness E → Type 0) → (I → Type 0) → Type 0 → Slot MFut S E → Type 0
IsSlot mg g may_stand may_serve may_leave may_ready may_init may_make (Making future) =
    mg.can_poll (watched_future future) × Within (mg.gives (watched_future future)) (MakesFor g may_stand may_serve may_leave may_ready may_init may_make)
IsSlot mg g may_stand may_serve may_leave may_ready may_init may_make (Made service) = may_make × Stands g may_stand may_serve may_leave may_ready service
IsSlot mg g may_stand may_serve may_leave may_ready may_init may_make (Failed error) = may_make × may_ready (PollReady (Err error))
IsSlot mg g may_stand may_serve may_leave may_ready may_init may_make (Remaking future error) =
    (may_make × may_ready (PollReady (Err error)))
    × (mg.can_poll (watched_future future) × Within (mg.gives (watched_future future)) (MakesFor g may_stand may_serve may_leave may_ready may_init may_make))
IsSlot mg g may_stand may_serve may_leave may_ready may_init may_make Gone = ⊥

-- what the core knows of a service: it is asked where it stands, and one at a time is made anew
abbrev pub fits : {Fut S E : Type 0} → ServiceStatus → Slot Fut S E → Bool
fits s (Making future) = is_asked s && not (is_available s)
fits s (Made service) = is_asked s
fits s (Failed error) = is_failed s || is_restarting s
fits s (Remaking future error) = is_restarting s
fits s Gone = is_restarting s

abbrev pub fits_at : {Fut S E : Type 0} → ServiceStatus → Option (Slot Fut S E) → Bool
fits_at s None = true
fits_at s (Some slot) = fits s slot

-- the count of a creation future, 0 where there is none
abbrev pub making_waits : {Fut S E : Type 0} → Option (Slot Fut S E) → ℕ
making_waits None = 0
making_waits (Some (Making future)) = wait_count future
making_waits (Some (Made service)) = 0
making_waits (Some (Failed error)) = 0
making_waits (Some (Remaking future error)) = wait_count future
making_waits (Some Gone) = 0

-- it was made, at least once
abbrev pub IsMade : {Fut S E : Type 0} → Option (Slot Fut S E) → Type 0
IsMade None = ⊥
IsMade (Some (Making future)) = ⊥
IsMade (Some (Made service)) = ⊤
IsMade (Some (Failed error)) = ⊤
IsMade (Some (Remaking future error)) = ⊤
IsMade (Some Gone) = ⊤

-- it erred, and is to be made anew
abbrev pub HasErred : {Fut S E : Type 0} → Option (Slot Fut S E) → Type 0
HasErred None = ⊥
HasErred (Some (Making future)) = ⊥
HasErred (Some (Made service)) = ⊥
HasErred (Some (Failed error)) = ⊤
HasErred (Some (Remaking future error)) = ⊤
HasErred (Some Gone) = ⊤

-- a service of each token was made
abbrev pub AllMade : {Fut S E : Type 0} → List (Slot Fut S E) → Type 0
AllMade slots = (token : ℕ) → token < length slots → IsMade (slice_get slots token)

-- it was being made for the first time, and the count of its making rose
abbrev pub StillMaking : {Fut S E : Type 0} → Watched Fut → Slot Fut S E → Type 0
StillMaking future (Making before) = Rose (wait_count before) (wait_count future)
StillMaking future (Made service) = ⊥
StillMaking future (Failed error) = ⊥
StillMaking future (Remaking before error) = ⊥
StillMaking future Gone = ⊥

-- it was made, or the count of its first making rose
abbrev pub MadeOrWaits : {Fut S E : Type 0} → Slot Fut S E → Slot Fut S E → Type 0
MadeOrWaits before (Making future) = StillMaking future before
MadeOrWaits before (Made service) = ⊤
MadeOrWaits before (Failed error) = ⊤
MadeOrWaits before (Remaking future error) = ⊤
MadeOrWaits before Gone = ⊤

-- the factory of each token makes services of the token
abbrev pub AreFactories : {Fac L E S I MFut Fut : Type 0} → FactoryOf Fac L (Ended L) E (Unit {0}) S I MFut Fut → (Fut → L → Type 0)
    → (ℕ → L → Ended L → Type 0) → (ℕ → L → L → Type 0) → (ℕ → Readiness E → Type 0) → (ℕ → I → Type 0) → (ℕ → Type 0) → List Fac → Type 0
AreFactories fg may_stand may_serve may_leave may_ready may_init may_make factories = (token : ℕ) → IfSome (slice_get factories token)
    (Creates fg may_stand (may_serve token) (may_leave token) (may_ready token) (may_init token) (may_make token))

-- each slot is one of its token
abbrev pub AreSlots : {S L E I Fut MFut : Type 0} → FutureOf MFut (Result S I) → ServiceOf S L (Ended L) E Fut → (Fut → L → Type 0)
    → (ℕ → L → Ended L → Type 0) → (ℕ → L → L → Type 0) → (ℕ → Readiness E → Type 0) → (ℕ → I → Type 0) → (ℕ → Type 0) → List (Slot MFut S E) → Type 0
AreSlots mg sg may_stand may_serve may_leave may_ready may_init may_make slots = (token : ℕ) → IfSome (slice_get slots token)
    (IsSlot mg sg may_stand (may_serve token) (may_leave token) (may_ready token) (may_init token) (may_make token))

-- a fact of what stands in two lists at one place
abbrev pub AtSlot : {A : Type 0} → (A → A → Type 0) → Option A → Option A → Type 0
AtSlot P (Some a) (Some b) = P a b
AtSlot P (Some a) None = ⊥
AtSlot P None (Some b) = ⊥
AtSlot P None None = ⊥
