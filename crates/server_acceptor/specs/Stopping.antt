-- That the acceptor sends stops to workers.
use Rattle.std.specs.Prelude.{◌≡◌, ◌⊎◌, ◌≤◌, ◌<◌, ℕ, ◌+◌, ◌*◌, Bool, true, false, All, IsSomeAnd, slice_index_or, sum}
use Rattle.server_acceptor.specs.Acceptors.{core_of, forced_of, parcels_of, shutdown_timeout_of, stop_of, stopped_of, workers_of}
use Rattle.server_acceptor.specs.Placing.{HasNoPlace}
use Rattle.server_acceptor.specs.Sending.{IsForced}
use Rattle.server_acceptor.specs.declared.acceptor.Acceptor.{Acceptor}

-- what the sending of stops leaves as it was
pub record StopsOnly {L : Type 0} (a b : Acceptor L) : Type 0 where
  pub core : b.core ≡ a.core
  pub events : b.events ≡ a.events
  pub notes : b.notes ≡ a.notes
  pub ready : b.ready ≡ a.ready
  pub waiting : b.waiting ≡ a.waiting
  pub serial : b.serial ≡ a.serial
  pub places : b.places ≡ a.places
  pub failed : b.failed ≡ a.failed
  pub first : b.first ≡ a.first
  pub limit : b.limit ≡ a.limit
  pub retry_limit : b.retry_limit ≡ a.retry_limit
  pub shutdown_timeout : b.shutdown_timeout ≡ a.shutdown_timeout
  pub lacks_room : b.lacks_room ≡ a.lacks_room
  pub stop : b.stop ≡ a.stop

-- A force message is due: the stop is not graceful, or its time is over.
abbrev pub IsDue : {L : Type 0} → Acceptor L → ℕ → Type 0
IsDue a now = IsSomeAnd (stop_of a) (λ stop. (stop.graceful ≡ false) ⊎ (stop.since + 1000 * shutdown_timeout_of a ≤ now))

-- a worker has got no stop yet, and no place of its ring is known free
abbrev pub LacksStop : {L : Type 0} → Acceptor L → ℕ → Type 0
LacksStop a w = (w < workers_of a) × (slice_index_or (stopped_of a) w true ≡ false) × HasNoPlace (parcels_of a) w

-- the same of a force message
abbrev pub LacksForce : {L : Type 0} → Acceptor L → ℕ → Type 0
LacksForce a w = (w < workers_of a) × (slice_index_or (forced_of a) w true ≡ false) × HasNoPlace (parcels_of a) w

-- each worker got a stop, something is out, and some worker got no force message
abbrev pub AwaitsWorkers : {L : Type 0} → Acceptor L → Type 0
AwaitsWorkers a = All (λ stopped. stopped ≡ true) (stopped_of a) × (0 < sum (core_of a).out) × ((w : ℕ) × (w < workers_of a) × (slice_index_or (forced_of a) w true ≡ false))

-- what it waits for after a stop
abbrev pub AwaitsStop : {L : Type 0} → Acceptor L → ℕ → Type 0
AwaitsStop a now = ((w : ℕ) × LacksStop a w) ⊎ ((IsDue a now × ((w : ℕ) × LacksForce a w)) ⊎ AwaitsWorkers a)

-- where a force message is due, each worker was sent one, or no place of its ring is known free
abbrev pub ForcesAll : {L : Type 0} → Acceptor L → ℕ → Type 0
ForcesAll a now = IsDue a now → (w : ℕ) → w < workers_of a → IsForced (parcels_of a) w ⊎ HasNoPlace (parcels_of a) w

-- what goes to a worker of which a force message is asked, or a stop alone
abbrev pub LacksWord : {L : Type 0} → Acceptor L → Bool → ℕ → Type 0
LacksWord a true w = LacksForce a w
LacksWord a false w = LacksStop a w

abbrev pub GotWord : {L : Type 0} → Acceptor L → Bool → ℕ → Type 0
GotWord a true w = (slice_index_or (stopped_of a) w false ≡ true) × (slice_index_or (forced_of a) w false ≡ true)
GotWord a false w = slice_index_or (stopped_of a) w false ≡ true
