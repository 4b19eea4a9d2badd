-- That a connection goes from where it waits to the ring of a worker.
use Rattle.std.specs.Prelude.{◌+◌, ◌≢◌, is_some, slice_index, ◌≡◌, ◌<◌, ℕ, ◌++◌, ◌∷◌, [], Bool, List, length, map, nat_eq, Option, Some, None, IfSome, slice_get, slice_set, slice_index_or, true, false}
use Rattle.std.specs.List.{IsDistinct}
use Rattle.std.specs.FinSet as set
use Rattle.rtrb.specs.Ring.{known_free, sent}
use Rattle.rtrb.specs.declared.producer.Producer.{Producer}
use Rattle.server_core.specs.Core.{in_order, step}
use Rattle.server_core.specs.declared.event.Event.{Event}
use Rattle.server_core.specs.declared.event.Event.TheVariants.{RingFull, Notice, Sent as SentTo}
use Rattle.server_acceptor.specs.Rings.{ring_in}
use Rattle.server_acceptor.specs.declared.placed.Placed.{Placed}
use Rattle.server_acceptor.specs.declared.placed.Placed.TheVariants.{Sent, Waiting, Nothing}
use Rattle.server_acceptor.specs.declared.acceptor.Acceptor.{Acceptor}
use Rattle.server_jobs.specs.declared.parcel.Parcel.{Parcel}
use Rattle.server_jobs.specs.declared.parcel.Parcel.TheVariants.{Conn, Stop}
use Rattle.server_jobs.specs.declared.waiting.Waiting.{Waiting as IsWaiting}

-- the rings are the same ones, and nothing went on them
pub record KeepsSent {T A P : Type 0} (before now : List (Producer T A P)) : Type 0 where
  pub rings : map ring_in now ≡ map ring_in before
  pub sent_on : map sent now ≡ map sent before

-- the rings are the same ones, and one item more went on that of a worker
pub record PutsAt {T A P : Type 0} (before now : List (Producer T A P)) (w : ℕ) (item : T) : Type 0 where
  pub rings : map ring_in now ≡ map ring_in before
  pub inside : w < length before
  pub sent_on : map sent now ≡ slice_set (map sent before) w (slice_index_or (map sent before) w [] ++ item ∷ [])

-- no place of the ring of w is known free
abbrev pub HasNoPlace : {T A P : Type 0} → List (Producer T A P) → ℕ → Type 0
HasNoPlace producers w = IfSome (slice_get producers w) (λ p. known_free p ≡ 0)

abbrev pub parcel_of : {L : Type 0} → IsWaiting L → Parcel L
parcel_of p = Conn p.serial p.token p.place p.link

-- the connection of a parcel, as it waits
abbrev pub waits_of : {L : Type 0} → Parcel L → Option (IsWaiting L)
waits_of (Conn s t p link) = Some (record { serial = s; token = t; place = p; link = link })
waits_of (Stop graceful) = None

-- what the placing of a connection leaves as it was
pub record Stays {L : Type 0} (a b : Acceptor L) : Type 0 where
  pub notes : b.notes ≡ a.notes
  pub ready : b.ready ≡ a.ready
  pub stopped : b.stopped ≡ a.stopped
  pub forced : b.forced ≡ a.forced
  pub stop : b.stop ≡ a.stop
  pub serial : b.serial ≡ a.serial
  pub places : b.places ≡ a.places
  pub failed : b.failed ≡ a.failed
  pub first : b.first ≡ a.first
  pub limit : b.limit ≡ a.limit
  pub retry_limit : b.retry_limit ≡ a.retry_limit
  pub shutdown_timeout : b.shutdown_timeout ≡ a.shutdown_timeout
  pub lacks_room : b.lacks_room ≡ a.lacks_room

-- the ring of w refused what waits, and w is free still
pub record Refuses {L : Type 0} (a b : Acceptor L) (w : ℕ) : Type 0 where
  pub stays : Stays a b
  pub waiting : b.waiting ≡ a.waiting
  pub rings : KeepsSent a.parcels.items b.parcels.items
  pub no_place : HasNoPlace b.parcels.items w
  pub others : (v : ℕ) → HasNoPlace a.parcels.items v → HasNoPlace b.parcels.items v
  pub core : b.core ≡ step (step a.core (RingFull w)) (Notice w)
  pub events : b.events.items ≡ a.events.items ++ RingFull w ∷ Notice w ∷ []

-- what waited went on the ring of w, whose place it takes there
pub record Sends {L : Type 0} (a b : Acceptor L) (w : ℕ) : Type 0 where
  pub stays : Stays a b
  pub waiting : b.waiting ≡ None
  pub placed : IsWaiting L
  pub was : a.waiting ≡ Some placed
  pub rings : PutsAt a.parcels.items b.parcels.items w (parcel_of placed)
  pub others : (v : ℕ) → v ≢ w → HasNoPlace a.parcels.items v → HasNoPlace b.parcels.items v
  pub remains : Bool
  pub core : b.core ≡ step a.core (SentTo w remains)
  pub events : b.events.items ≡ a.events.items ++ SentTo w remains ∷ []

-- the events of rings that refused, in order
abbrev pub refusals : List ℕ → List Event
refusals [] = []
refusals (w ∷ ws) = RingFull w ∷ Notice w ∷ refusals ws

-- each of these rings refused once, and has no place that is known free
pub record RefuseAll {L : Type 0} (a b : Acceptor L) (full : List ℕ) (rest : List Event) : Type 0 where
  pub events : b.events.items ≡ a.events.items ++ (refusals full ++ rest)
  pub once : IsDistinct nat_eq full
  pub no_place : (w : ℕ) → in_order full w ≡ true → HasNoPlace b.parcels.items w

-- it went to that worker, which was free, after the rings of others refused it
pub record WasSent {L : Type 0} (a b : Acceptor L) (w : ℕ) : Type 0 where
  pub full : List ℕ
  pub remains : Bool
  pub refused : RefuseAll a b full (SentTo w remains ∷ [])
  pub took : in_order full w ≡ false
  pub free : set.contains a.core.free w ≡ true
  pub waiting : b.waiting ≡ None
  pub placed : IsWaiting L
  pub was : a.waiting ≡ Some placed
  pub rings : PutsAt a.parcels.items b.parcels.items w (parcel_of placed)
  pub out : b.core.out ≡ slice_set a.core.out w (slice_index a.core.out w + 1)

-- it waits still, and the ring of each free worker refused it
pub record StillWaits {L : Type 0} (a b : Acceptor L) : Type 0 where
  pub full : List ℕ
  pub refused : RefuseAll a b full []
  pub all : (w : ℕ) → set.contains b.core.free w ≡ true → in_order full w ≡ true
  pub free : (w : ℕ) → set.contains b.core.free w ≡ set.contains a.core.free w
  pub waits : is_some a.waiting ≡ true
  pub waiting : b.waiting ≡ a.waiting
  pub rings : KeepsSent a.parcels.items b.parcels.items
  pub out : b.core.out ≡ a.core.out

-- none waits, and nothing happened
pub record NoneWaits {L : Type 0} (a b : Acceptor L) : Type 0 where
  pub waits : a.waiting ≡ None
  pub waiting : b.waiting ≡ a.waiting
  pub core : b.core ≡ a.core
  pub events : b.events ≡ a.events
  pub parcels : b.parcels ≡ a.parcels

abbrev pub IsPlaced : {L : Type 0} → Acceptor L → Acceptor L → Placed → Type 0
IsPlaced a b (Sent w) = WasSent a b w
IsPlaced a b Waiting = StillWaits a b
IsPlaced a b Nothing = NoneWaits a b
