-- Where the connections of a worker are, each once.
use Rattle.std.specs.Prelude.{◌≡◌, ◌<◌, ℕ, ◌+◌, sum_by}
use Rattle.rtrb.specs.Ring.{known_free, received, sent, SameConsumer, SameProducer}
use Rattle.service_core.specs.Link.{Identity}
use Rattle.server_jobs.specs.Cards.{Card, card, of_note, of_parcel, of_waiting}
use Rattle.server_worker.specs.declared.connections.Connections.{Connections}
use Rattle.server_worker.specs.declared.live.Live.{Live}

module _ {L : Type 0} (identity : L → Identity) (h : Card → ℕ) where
  -- a live connection weighs as its link was given
  abbrev pub of_live : {Fut : Type 0} → Live L Fut → ℕ
  of_live c = h (card c.serial c.token c.place (identity c.given.value))

  -- what a worker holds: queued, of no listener, live, or kept for handing back
  abbrev pub in_hand : {Fut : Type 0} → Connections L Fut → ℕ
  in_hand w = (sum_by (of_waiting identity h) w.queue.items + sum_by (of_waiting identity h) w.strays.items) + (sum_by of_live w.live.items + sum_by (of_note identity h) w.owed.items)

-- From a to b: the same two ring ends, a place of the ring back stays known free, and each connection that was received since is in a note that was sent since or is held, each once, however connections are weighed.
pub record Accounts {L Fut : Type 0} (identity : L → Identity) (a b : Connections L Fut) : Type 0 where
  pub parcels : SameConsumer a.parcels b.parcels
  pub notes : SameProducer a.notes b.notes
  pub spares : 0 < known_free a.notes → 0 < known_free b.notes
  pub once : (h : Card → ℕ) →
      (sum_by (of_parcel identity h) (received b.parcels) + sum_by (of_note identity h) (sent a.notes)) + in_hand identity h a
      ≡ (sum_by (of_parcel identity h) (received a.parcels) + sum_by (of_note identity h) (sent b.notes)) + in_hand identity h b
