-- That notes go on the ring, in order.
use Rattle.std.specs.Prelude.{◌≡◌, ◌<◌, ◌++◌, List}
use Rattle.rtrb.specs.Ring.{known_free, sent, SameProducer}
use Rattle.server_worker.specs.declared.connections.Connections.{Connections}
use Rattle.server_jobs.specs.declared.note.Note.{Note}

-- What was kept for handing back went on the ring from its front on, but for its last place, and the rest of the worker is as it was.
pub record Posts {L Fut : Type 0} (a b : Connections L Fut) : Type 0 where
  pub more : List (Note L)
  pub appended : sent b.notes ≡ sent a.notes ++ more
  pub kept : a.owed.items ≡ more ++ b.owed.items
  pub notes : SameProducer a.notes b.notes
  pub spares : 0 < known_free a.notes → 0 < known_free b.notes
  pub parcels : b.parcels ≡ a.parcels
  pub queue : b.queue ≡ a.queue
  pub strays : b.strays ≡ a.strays
  pub live : b.live ≡ a.live
  pub stopped : b.stopped ≡ a.stopped
  pub forced : b.forced ≡ a.forced
  pub told_ready : b.told ≡ a.told
