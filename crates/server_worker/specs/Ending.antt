-- How a live connection ends.
use Rattle.std.specs.Prelude.{◌≡◌, ◌++◌, ◌∷◌, [], ℕ, swap_remove}
use Rattle.server_run.specs.declared.entry.Entry.{Entry}
use Rattle.server_worker.specs.declared.connections.Connections.{Connections}
use Rattle.server_worker.specs.declared.finished.Finished.{Finished}
use Rattle.server_worker.specs.declared.live.Live.{Live}
use Rattle.server_jobs.specs.declared.note.Note.TheVariants.{Back}

abbrev pub entry_of : {L Fut : Type 0} → Live L Fut → Finished L → Entry L
entry_of c f = record { serial = c.serial; token = c.token; place = c.place; link = f.link; outcome = f.outcome }

-- the same numbers, and the same link as it was given
pub record IsSameConnection {L Fut : Type 0} (a b : Live L Fut) : Type 0 where
  pub serial : b.serial ≡ a.serial
  pub token : b.token ≡ a.token
  pub place : b.place ≡ a.place
  pub given : b.given.value ≡ a.given.value

-- the live connection at a place went, and its entry is kept for handing back
pub record EndsAt {L Fut : Type 0} (a b : Connections L Fut) (at : ℕ) (c : Live L Fut) (f : Finished L) : Type 0 where
  pub live : b.live.items ≡ swap_remove a.live.items at c
  pub owed : b.owed.items ≡ a.owed.items ++ Back (entry_of c f) ∷ []
  pub parcels : b.parcels ≡ a.parcels
  pub notes : b.notes ≡ a.notes
  pub queue : b.queue ≡ a.queue
  pub strays : b.strays ≡ a.strays
  pub stopped : b.stopped ≡ a.stopped
  pub forced : b.forced ≡ a.forced
  pub told_ready : b.told ≡ a.told
