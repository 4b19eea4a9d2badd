-- How a worker tells, once, that all its services stand.
use Rattle.std.specs.Prelude.{◌≡◌, ℕ, ◌+◌, Bool, true, false, List, sum_by}
use Rattle.rtrb.specs.Ring.{sent}
use Rattle.server_run.specs.Outcome.{is_stopped}
use Rattle.server_run.specs.declared.entry.Entry.{Entry}
use Rattle.server_jobs.specs.declared.note.Note.{Note}
use Rattle.server_jobs.specs.declared.note.Note.TheVariants.{Ready, Back}
use Rattle.server_worker.specs.Standing.{AllMade}
use Rattle.server_worker.specs.declared.connections.Connections.{Connections}
use Rattle.server_worker.specs.declared.slot.Slot.{Slot}

-- notes that hand a connection back weigh nothing
abbrev pub WeighsSignals : {L : Type 0} → (Note L → ℕ) → Type 0
WeighsSignals {L} f = (entry : Entry L) → f (Back entry) ≡ 0

-- notes that hand back a connection that ended weigh nothing; one that a stop gave back may weigh
abbrev pub WeighsNoEnd : {L : Type 0} → (Note L → ℕ) → Type 0
WeighsNoEnd {L} f = (entry : Entry L) → is_stopped entry.outcome ≡ false → f (Back entry) ≡ 0

-- the weight of the notes that were sent, and of those that are owed
abbrev pub noted : {L Fut : Type 0} → (Note L → ℕ) → Connections L Fut → ℕ
noted f w = sum_by f (sent w.notes) + sum_by f w.owed.items

-- that weight once more, where it was not told before, and is now
abbrev pub newly : ℕ → Bool → Bool → ℕ
newly n true now = 0
newly n false true = n
newly n false false = 0

-- notes may have come that hand connections back, and no others
pub record TellsNoReady {L Fut : Type 0} (a b : Connections L Fut) : Type 0 where
  pub count : (f : Note L → ℕ) → WeighsSignals f → noted f b ≡ noted f a
  pub told : b.told ≡ a.told

-- That all services stand was told in between where it had not been told before, and once, and only where each was made. No other note
-- came but those that hand connections back.
pub record TellsReady {L Fut MFut S E : Type 0} (slots : List (Slot MFut S E)) (a b : Connections L Fut) : Type 0 where
  pub once : (f : Note L → ℕ) → WeighsSignals f → noted f b ≡ noted f a + newly (f Ready) a.told b.told
  pub stays : a.told ≡ true → b.told ≡ true
  pub stand : a.told ≡ false → b.told ≡ true → AllMade slots
