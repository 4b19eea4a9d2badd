-- What a worker takes from its ring.
use Rattle.std.specs.Prelude.{◌≡◌, ◌++◌, ◌||◌, ℕ, List, All}
use Rattle.std.specs.List.{list_any}
use Rattle.rtrb.specs.Ring.{received}
use Rattle.server_worker.specs.Sound.{Strays, WaitsFor}
use Rattle.server_jobs.specs.Parcels.{is_force, is_stop}
use Rattle.server_worker.specs.declared.connections.Connections.{Connections}
use Rattle.server_jobs.specs.declared.parcel.Parcel.{Parcel}
use Rattle.server_jobs.specs.declared.waiting.Waiting.{Waiting}

-- more was received, and it is stopped where it was, or where a stop was among that; so it is by force
pub record Receives {L Fut : Type 0} (a b : Connections L Fut) : Type 0 where
  pub more : List (Parcel L)
  pub came : received b.parcels ≡ received a.parcels ++ more
  pub stopped : b.stopped ≡ (a.stopped || list_any is_stop more)
  pub forced : b.forced ≡ (a.forced || list_any is_force more)

-- What came went behind the queue, or, where there is no service for it, behind the strays.
pub record Takes {L Fut : Type 0} (listeners : ℕ) (a b : Connections L Fut) : Type 0 where
  pub more : List (Parcel L)
  pub came : received b.parcels ≡ received a.parcels ++ more
  pub stopped : b.stopped ≡ (a.stopped || list_any is_stop more)
  pub forced : b.forced ≡ (a.forced || list_any is_force more)
  pub queued : List (Waiting L)
  pub queue : b.queue.items ≡ a.queue.items ++ queued
  pub each_queued : All (WaitsFor listeners (received b.parcels)) queued
  pub strayed : List (Waiting L)
  pub strays : b.strays.items ≡ a.strays.items ++ strayed
  pub each_strayed : All (Strays listeners (received b.parcels)) strayed
  pub live : b.live.items ≡ a.live.items
  pub owed : b.owed.items ≡ a.owed.items
  pub notes : b.notes ≡ a.notes
  pub told_ready : b.told ≡ a.told

-- only its room grew
pub record Grows {L Fut : Type 0} (a b : Connections L Fut) : Type 0 where
  pub parcels : b.parcels ≡ a.parcels
  pub notes : b.notes ≡ a.notes
  pub queue : b.queue.items ≡ a.queue.items
  pub strays : b.strays.items ≡ a.strays.items
  pub live : b.live.items ≡ a.live.items
  pub owed : b.owed.items ≡ a.owed.items
  pub stopped : b.stopped ≡ a.stopped
  pub forced : b.forced ≡ a.forced
  pub told_ready : b.told ≡ a.told

-- more came behind the queue, and nothing left it
pub record Queues {L Fut : Type 0} (a b : Connections L Fut) : Type 0 where
  pub more : List (Waiting L)
  pub appended : b.queue.items ≡ a.queue.items ++ more
