-- What asking a listener once comes to.
use Rattle.std.specs.Prelude.{◌≡◌, ◌⊎◌, ℕ, ◌+◌, ◌<◌, slice_set, ◌++◌, ◌∷◌, [], Bool, List, length, Option, Some, None, slice_index, slice_index_or}
use Rattle.std.specs.Option.{option_map}
use Rattle.service_core.specs.Counts.{Rose}
use Rattle.server_run.specs.Delivery.{HasEnded, given_at}
use Rattle.server_run.specs.Listener.{Mark, fails, gives}
use Rattle.server_core.specs.declared.event.Event.TheVariants.{Got as GotOf, ListenerEnded, ListenerFailed}
use Rattle.server_acceptor.specs.declared.acceptor.Acceptor.{Acceptor}
use Rattle.server_acceptor.specs.declared.asked.Asked.{Asked}
use Rattle.server_acceptor.specs.declared.asked.Asked.TheVariants.{Got, NotYet, Skipped, Failed, Ended}

-- it failed, for the time being, or as often as it may
pub record Fails {L : Type 0} (a b : Acceptor L) (t now : ℕ) : Type 0 where
  pub failed : slice_index_or b.failed.items t None ≡ Some now
  pub events : (b.events.items ≡ a.events.items ++ ListenerFailed t ∷ [])
      ⊎ ((b.events.items ≡ a.events.items ++ (ListenerFailed t ∷ ListenerEnded t ∷ [])) × (slice_index b.core.failures t ≡ b.retry_limit))

-- nothing was taken up
pub record KeepsWaiting {L : Type 0} (a b : Acceptor L) : Type 0 where
  pub waiting : b.waiting ≡ a.waiting
  pub serial : b.serial ≡ a.serial
  pub places : b.places ≡ a.places

-- the events that this asking added, and what the listener did
abbrev pub IsAsked : {Li L : Type 0} → (Li → ℕ) → (Li → ℕ) → (Li → ℕ) → (Li → ℕ) → (Li → Bool) → List Li → List Li → Acceptor L → Acceptor L → ℕ → ℕ → Asked → Type 0
IsAsked given waits skips faults ended before after a b t now Got = (b.events.items ≡ a.events.items ++ GotOf t ∷ []) × (given_at given after t ≡ given_at given before t + 1)
IsAsked given waits skips faults ended before after a b t now NotYet = (b.events.items ≡ a.events.items) × (given_at given after t ≡ given_at given before t) × Rose (given_at waits before t) (given_at waits after t)
IsAsked given waits skips faults ended before after a b t now Skipped = (b.events.items ≡ a.events.items) × (given_at given after t ≡ given_at given before t) × Rose (given_at skips before t) (given_at skips after t)
IsAsked given waits skips faults ended before after a b t now Failed = Fails a b t now × (given_at given after t ≡ given_at given before t) × Rose (given_at faults before t) (given_at faults after t)
IsAsked given waits skips faults ended before after a b t now Ended = (b.events.items ≡ a.events.items ++ ListenerEnded t ∷ []) × (given_at given after t ≡ given_at given before t) × HasEnded ended after t

-- a connection and a failure are the first of what was still to come
abbrev pub IsMarkedAs : Asked → Option (List Mark) → Option (List Mark) → Type 0
IsMarkedAs Got old new = old ≡ option_map (λ marks. gives ∷ marks) new
IsMarkedAs NotYet old new = new ≡ old
IsMarkedAs Skipped old new = new ≡ old
IsMarkedAs Failed old new = old ≡ option_map (λ marks. fails ∷ marks) new
IsMarkedAs Ended old new = new ≡ old

-- what asking leaves as it was
pub record AsksOnly {L : Type 0} (a b : Acceptor L) : Type 0 where
  pub parcels : b.parcels ≡ a.parcels
  pub notes : b.notes ≡ a.notes
  pub ready : b.ready ≡ a.ready
  pub stopped : b.stopped ≡ a.stopped
  pub forced : b.forced ≡ a.forced
  pub stop : b.stop ≡ a.stop
  pub shutdown_timeout : b.shutdown_timeout ≡ a.shutdown_timeout
  pub first : b.first ≡ a.first
  pub limit : b.limit ≡ a.limit
  pub retry_limit : b.retry_limit ≡ a.retry_limit
  pub lacks_room : b.lacks_room ≡ a.lacks_room
  pub out : b.core.out ≡ a.core.out
  pub order : b.core.order ≡ a.core.order
  pub free : b.core.free ≡ a.core.free
  pub paused : b.core.paused ≡ a.core.paused
  pub stopping : b.core.stopping ≡ a.core.stopping

-- a connection of the listener t waits, with the next numbers
pub record TakesUp {L : Type 0} (a b : Acceptor L) (t : ℕ) (link : L) : Type 0 where
  pub none : a.waiting ≡ None
  pub waiting : b.waiting ≡ Some (record { serial = a.serial; token = t; place = slice_index_or a.places.items t 0; link = link })
  pub serial : b.serial ≡ a.serial + 1
  pub inside : t < length a.places.items
  pub places : b.places.items ≡ slice_set a.places.items t (slice_index_or a.places.items t 0 + 1)
  pub events : b.events.items ≡ a.events.items ++ GotOf t ∷ []

-- a connection of the listener waits then, or nothing was taken up
abbrev pub Leaves : {L : Type 0} → Acceptor L → Acceptor L → ℕ → Asked → Type 0
Leaves a b t Got = (link : _) × TakesUp a b t link
Leaves a b t _ = KeepsWaiting a b
