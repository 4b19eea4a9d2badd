-- What was sent to a worker.
use Rattle.std.specs.Prelude.{◌≡◌, ◌<◌, ℕ, [], Bool, true, false, List, count_by, slice_get, slice_index_or}
use Rattle.std.specs.Option.{option_map_or}
use Rattle.rtrb.specs.Ring.{sent}
use Rattle.rtrb.specs.declared.producer.Producer.{Producer}
use Rattle.server_jobs.specs.Parcels.{is_force, is_stop}
use Rattle.server_jobs.specs.declared.parcel.Parcel.{Parcel}

module _ {L A P : Type 0} (producers : List (Producer (Parcel L) A P)) where
  -- what was sent to w
  abbrev pub sent_to : ℕ → List (Parcel L)
  sent_to w = option_map_or (λ p. sent p) (slice_get producers w) []

  -- w was sent such a parcel
  abbrev pub IsSent : (Parcel L → Bool) → ℕ → Type 0
  IsSent test w = 0 < count_by test (sent_to w)

  -- w was sent a stop that is not graceful
  abbrev pub IsForced : ℕ → Type 0
  IsForced = IsSent is_force

  -- w was sent a stop
  abbrev pub IsStopped : ℕ → Type 0
  IsStopped = IsSent is_stop

  -- each that is marked was sent such a parcel
  abbrev pub AreSent : (Parcel L → Bool) → List Bool → Type 0
  AreSent test marks = (w : ℕ) → slice_index_or marks w false ≡ true → IsSent test w

  -- each that is marked was sent a stop
  abbrev pub AreStopped : List Bool → Type 0
  AreStopped = AreSent is_stop

  -- each that is marked was sent one that is not graceful
  abbrev pub AreForced : List Bool → Type 0
  AreForced = AreSent is_force
