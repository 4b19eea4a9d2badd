-- What is known of each connection at a worker: where it came from, and what may become of it.
use Rattle.std.specs.Prelude.{◌≡◌, ◌<◌, ◌≤◌, ◌++◌, ⊤, ℕ, true, false, List, All, Contains, Result}
use Rattle.std.specs.List.{list_any}
use Rattle.futures.specs.declared.future.Future.{Ghosts as FutureOf}
use Rattle.rtrb.specs.Ring.{received, sent}
use Rattle.service_core.specs.Meaning.{Within}
use Rattle.service_core.specs.Shown.{watched_future}
use Rattle.service_core.specs.declared.ended.Ended.{Ended}
use Rattle.server_run.specs.Creating.{OnlyEnds}
use Rattle.server_run.specs.Delivery.{ComesBack}
use Rattle.server_run.specs.Outcome.{is_lost, is_stopped}
use Rattle.server_run.specs.declared.entry.Entry.{Entry}
use Rattle.server_jobs.specs.Parcels.{is_force, is_stop}
use Rattle.server_worker.specs.Stops.{is_forced}
use Rattle.server_worker.specs.declared.connections.Connections.{Connections}
use Rattle.server_worker.specs.declared.live.Live.{Live}
use Rattle.server_jobs.specs.declared.note.Note.{Note}
use Rattle.server_jobs.specs.declared.note.Note.TheVariants.{Ready, Back, Faulted}
use Rattle.server_jobs.specs.declared.parcel.Parcel.{Parcel}
use Rattle.server_jobs.specs.declared.parcel.Parcel.TheVariants.{Conn}
use Rattle.server_jobs.specs.declared.waiting.Waiting.{Waiting}

-- a connection that waits is as it came
abbrev pub Waits : {L : Type 0} → List (Parcel L) → Waiting L → Type 0
Waits parcels w = Contains parcels (Conn w.serial w.token w.place w.link)

-- the future of a live connection gives only ends, and hands back only links, that a service of its token may for the link as it was given
pub record Serves {L E Fut : Type 0} (g : FutureOf Fut (Result (Ended L) E)) (may_stand : Fut → L → Type 0)
    (may_serve : ℕ → L → Ended L → Type 0) (may_leave : ℕ → L → L → Type 0) (c : Live L Fut) : Type 0 where
  pub pollable : g.can_poll (watched_future c.future)
  pub gives : Within (g.gives (watched_future c.future)) (OnlyEnds (may_serve c.token c.given.value))
  pub leaves : Within (may_stand (watched_future c.future)) (may_leave c.token c.given.value)

-- and it came so
abbrev pub Lives : {L E Fut : Type 0} → FutureOf Fut (Result (Ended L) E) → (Fut → L → Type 0) → (ℕ → L → Ended L → Type 0) → (ℕ → L → L → Type 0)
    → List (Parcel L) → Live L Fut → Type 0
Lives g may_stand may_serve may_leave parcels c = Contains parcels (Conn c.serial c.token c.place c.given.value) × Serves g may_stand may_serve may_leave c

-- An entry tells of a connection that came. Its link came back from a service of the token, or, after a stop, as it stood then.
pub record Answers {L : Type 0} (may_serve : ℕ → L → Ended L → Type 0) (may_leave : ℕ → L → L → Type 0) (parcels : List (Parcel L)) (e : Entry L) : Type 0 where
  -- the link as it was given
  pub link : L
  pub came : Contains parcels (Conn e.serial e.token e.place link)
  pub comes_back : ComesBack (may_serve e.token) (may_leave e.token) link e.link e.outcome
  -- a worker tells of none that it is lost
  pub unlost : is_lost e.outcome ≡ false
  -- it tells of a stop only where one came, and of force only where a stop came that is not graceful
  pub stop : is_stopped e.outcome ≡ true → list_any is_stop parcels ≡ true
  pub force : is_forced e.outcome ≡ true → list_any is_force parcels ≡ true

-- a note is true: all services stand, or what it says of a connection
abbrev pub IsTold : {L : Type 0} → (ℕ → L → Ended L → Type 0) → (ℕ → L → L → Type 0) → (ℕ → Type 0) → ℕ → List (Parcel L) → Note L → Type 0
IsTold may_serve may_leave may_make listeners parcels Ready = (token : ℕ) → token < listeners → may_make token
IsTold may_serve may_leave may_make listeners parcels (Back e) = Answers may_serve may_leave parcels e
IsTold may_serve may_leave may_make listeners parcels Faulted = ⊤

-- a connection in the queue waits for a service that there is
abbrev pub WaitsFor : {L : Type 0} → ℕ → List (Parcel L) → Waiting L → Type 0
WaitsFor listeners parcels w = (w.token < listeners) × Waits parcels w

-- there is no service for a stray
abbrev pub Strays : {L : Type 0} → ℕ → List (Parcel L) → Waiting L → Type 0
Strays listeners parcels w = (listeners ≤ w.token) × Waits parcels w

-- all of this, for each connection that is queued, of no listener, live or kept for handing back; and it was stopped only where a stop came
pub record IsSound {L E Fut : Type 0} (g : FutureOf Fut (Result (Ended L) E)) (may_stand : Fut → L → Type 0)
    (may_serve : ℕ → L → Ended L → Type 0) (may_leave : ℕ → L → L → Type 0) (may_make : ℕ → Type 0) (listeners : ℕ) (w : Connections L Fut) : Type 0 where
  pub queue : All (WaitsFor listeners (received w.parcels)) w.queue.items
  pub strays : All (Strays listeners (received w.parcels)) w.strays.items
  pub live : All (Lives g may_stand may_serve may_leave (received w.parcels)) w.live.items
  pub owed : All (IsTold may_serve may_leave may_make listeners (received w.parcels)) w.owed.items
  pub stop : w.stopped ≡ true → list_any is_stop (received w.parcels) ≡ true
  pub force : w.forced ≡ true → list_any is_force (received w.parcels) ≡ true

-- from a to b more notes were sent, and each of them is true
pub record Tells {L Fut : Type 0} (may_serve : ℕ → L → Ended L → Type 0) (may_leave : ℕ → L → L → Type 0) (may_make : ℕ → Type 0) (listeners : ℕ) (a b : Connections L Fut) : Type 0 where
  pub more : List (Note L)
  pub appended : sent b.notes ≡ sent a.notes ++ more
  pub told : All (IsTold may_serve may_leave may_make listeners (received b.parcels)) more
