-- Which ring an end belongs to, and the ends that an acceptor has.
use Rattle.std.specs.Prelude.{ℕ, ◌≡◌, List, map, sum_by, slice_get}
use Rattle.std.specs.Option.{option_map_or}
use Rattle.rtrb.specs.Ring.{sent}
use Rattle.service_core.specs.Link.{Identity}
use Rattle.server_jobs.specs.Cards.{of_parcel}
use Rattle.server_jobs.specs.declared.parcel.Parcel.{Parcel}
use denote.RawPtr.{Ptr}
use Rattle.rtrb.specs.declared.consumer.Consumer.{Consumer}
use Rattle.rtrb.specs.declared.producer.Producer.{Producer}
use Rattle.server_acceptor.specs.declared.acceptor.Acceptor.{Acceptor}

-- two ends with one name are ends of one ring
abbrev pub RingName : Type 0 → Type 0
RingName A = Ptr × (Ptr × ((ℕ × (ℕ × ℕ)) × A))

abbrev pub ring_in : {T A P : Type 0} → Producer T A P → RingName A
ring_in p = (p.end.words, (p.end.slots, (p.end.names, p.end.heap)))

abbrev pub ring_out : {T A P : Type 0} → Consumer T A P → RingName A
ring_out c = (c.end.words, (c.end.slots, (c.end.names, c.end.heap)))

-- the rings stay the same ones, in their order
pub record KeepsRings {L : Type 0} (a b : Acceptor L) : Type 0 where
  pub parcels : map ring_in b.parcels.items ≡ map ring_in a.parcels.items
  pub notes : map ring_out b.notes.items ≡ map ring_out a.notes.items

-- how many connections were put on the ring of w
abbrev pub count_put : {L A P : Type 0} → (L → Identity) → List (Producer (Parcel L) A P) → ℕ → ℕ
count_put identity producers w = option_map_or (λ p. sum_by (of_parcel identity (λ card. 1)) (sent p)) (slice_get producers w) 0
