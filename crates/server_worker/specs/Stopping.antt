-- What becomes of the connections of a worker that was stopped.
use Rattle.std.specs.Prelude.{◌≡◌, ℕ, ◌+◌, [], Bool, true, false, sum_by}
use Rattle.rtrb.specs.Ring.{received}
use Rattle.service_core.specs.Link.{Identity}
use Rattle.server_run.specs.declared.entry.Entry.{Entry}
use Rattle.server_run.specs.declared.outcome.Outcome.TheVariants.{Stopped}
use Rattle.server_jobs.specs.Cards.{Card, of_entry, of_note, of_parcel}
use Rattle.server_jobs.specs.declared.note.Note.{Note}
use Rattle.server_jobs.specs.declared.note.Note.TheVariants.{Ready, Back, Faulted}
use Rattle.server_jobs.specs.declared.waiting.Waiting.{Waiting}
use Rattle.server_worker.specs.Holding.{of_live}
use Rattle.server_worker.specs.Polled.{queued}
use Rattle.server_worker.specs.Stops.{where_stopped}
use Rattle.server_worker.specs.Telling.{WeighsSignals, noted}
use Rattle.server_worker.specs.declared.connections.Connections.{Connections}

-- the entry of a connection that a stop gave back
abbrev pub stopped_entry : {L : Type 0} → Waiting L → Bool → Entry L
stopped_entry w forced = record { serial = w.serial; token = w.token; place = w.place; link = w.link; outcome = Stopped forced }

module _ {L : Type 0} (identity : L → Identity) (forced : Bool) (h : Card → ℕ) where
  -- a note weighs what its connection does, where a stop gave that back, by force or not as is said; and others weigh nothing
  abbrev pub of_stop : Note L → ℕ
  of_stop Ready = 0
  of_stop (Back e) = where_stopped forced (of_entry identity h e) e.outcome
  of_stop Faulted = 0

  -- the weight of the notes, sent and owed, that tell so
  abbrev pub told_as : {Fut : Type 0} → Connections L Fut → ℕ
  told_as w = noted of_stop w

-- Connections that waited went to what is owed, as they came.
pub record GivesBack {L Fut : Type 0} (identity : L → Identity) (a b : Connections L Fut) : Type 0 where
  pub once : (h : Card → ℕ) → queued identity h b + sum_by (of_note identity h) b.owed.items ≡ queued identity h a + sum_by (of_note identity h) a.owed.items
  pub stops : (h : Card → ℕ) → queued identity h b + sum_by (of_stop identity false h) b.owed.items ≡ queued identity h a + sum_by (of_stop identity false h) a.owed.items
  pub forces : (h : Card → ℕ) → sum_by (of_stop identity true h) b.owed.items ≡ sum_by (of_stop identity true h) a.owed.items
  pub signals : (f : Note L → ℕ) → WeighsSignals f → sum_by f b.owed.items ≡ sum_by f a.owed.items
  pub live : b.live ≡ a.live
  pub parcels : b.parcels ≡ a.parcels
  pub notes : b.notes ≡ a.notes
  pub stopped : b.stopped ≡ a.stopped
  pub forced : b.forced ≡ a.forced
  pub told_ready : b.told ≡ a.told

-- Live connections went to what is owed, as they stand.
pub record LetsGo {L Fut : Type 0} (identity : L → Identity) (a b : Connections L Fut) : Type 0 where
  pub once : (h : Card → ℕ) → sum_by (of_live identity h) b.live.items + sum_by (of_note identity h) b.owed.items ≡ sum_by (of_live identity h) a.live.items + sum_by (of_note identity h) a.owed.items
  pub forces : (h : Card → ℕ) → sum_by (of_live identity h) b.live.items + sum_by (of_stop identity true h) b.owed.items ≡ sum_by (of_live identity h) a.live.items + sum_by (of_stop identity true h) a.owed.items
  pub stops : (h : Card → ℕ) → sum_by (of_stop identity false h) b.owed.items ≡ sum_by (of_stop identity false h) a.owed.items
  pub signals : (f : Note L → ℕ) → WeighsSignals f → sum_by f b.owed.items ≡ sum_by f a.owed.items
  pub queue : b.queue ≡ a.queue
  pub strays : b.strays ≡ a.strays
  pub parcels : b.parcels ≡ a.parcels
  pub notes : b.notes ≡ a.notes
  pub stopped : b.stopped ≡ a.stopped
  pub forced : b.forced ≡ a.forced
  pub told_ready : b.told ≡ a.told

-- From a to b each connection that waited, or came, was given back as it came, once, as one that a stop gave back; and none waits.
pub record Returns {L Fut : Type 0} (identity : L → Identity) (a b : Connections L Fut) : Type 0 where
  pub queue : b.queue.items ≡ []
  pub strays : b.strays.items ≡ []
  pub once : (h : Card → ℕ) → told_as identity false h b + sum_by (of_parcel identity h) (received a.parcels)
      ≡ told_as identity false h a + (queued identity h a + sum_by (of_parcel identity h) (received b.parcels))

-- From a to b each connection that was live was given back, once, as one that a stop ended by force; and none is live.
pub record GivesUp {L Fut : Type 0} (identity : L → Identity) (a b : Connections L Fut) : Type 0 where
  pub live : b.live.items ≡ []
  pub once : (h : Card → ℕ) → told_as identity true h b ≡ told_as identity true h a + sum_by (of_live identity h) a.live.items
