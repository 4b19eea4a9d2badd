-- What is known of the notes of a worker's place, whoever put them on the ring.
use Rattle.std.specs.Prelude.{◌≡◌, ◌<◌, ⊤, ℕ, true, List, Contains, Some, None}
use Rattle.std.specs.List.{list_any}
use Rattle.service_core.specs.declared.ended.Ended.{Ended}
use Rattle.server_run.specs.Delivery.{ComesBack}
use Rattle.server_run.specs.declared.entry.Entry.{Entry}
use Rattle.server_run.specs.declared.outcome.Outcome.{Outcome}
use Rattle.server_run.specs.declared.outcome.Outcome.TheVariants.{Lost}
use Rattle.server_jobs.specs.Parcels.{is_force}
use Rattle.server_jobs.specs.declared.note.Note.{Note}
use Rattle.server_jobs.specs.declared.note.Note.TheVariants.{Ready, Back, Faulted}
use Rattle.server_jobs.specs.declared.parcel.Parcel.{Parcel}
use Rattle.server_jobs.specs.declared.parcel.Parcel.TheVariants.{Conn}
use Rattle.server_worker.specs.Stops.{is_forced}

-- one of so many workers lost it, which may end by a fault
abbrev pub IsLostHere : ℕ → Type 0 → Outcome → Type 0
IsLostHere workers may_fault (Lost (Some worker)) = (worker < workers) × may_fault
IsLostHere workers may_fault (Lost None) = ⊥
IsLostHere workers may_fault _ = ⊤

module _ {L : Type 0} (workers : ℕ) (may_fault : Type 0) (may_serve : ℕ → L → Ended L → Type 0) (may_leave : ℕ → L → L → Type 0) where
  -- An entry is a connection that was put on the ring to a worker, as it came back.
  pub record IsFrom (parcels : List (Parcel L)) (e : Entry L) : Type 0 where
    -- the link as it was given
    pub link : L
    pub came : Contains parcels (Conn e.serial e.token e.place link)
    pub comes_back : ComesBack (may_serve e.token) (may_leave e.token) link e.link e.outcome
    -- it was stopped by force only where a stop that is not graceful was put there
    pub force : is_forced e.outcome ≡ true → list_any is_force parcels ≡ true
    pub lost : IsLostHere workers may_fault e.outcome

  -- a note is true: all services stood, or what it says of a connection
  abbrev pub IsTale : (ℕ → Type 0) → ℕ → List (Parcel L) → Note L → Type 0
  IsTale may_make listeners parcels Ready = (token : ℕ) → token < listeners → may_make token
  IsTale may_make listeners parcels (Back e) = IsFrom parcels e
  IsTale may_make listeners parcels Faulted = ⊤
