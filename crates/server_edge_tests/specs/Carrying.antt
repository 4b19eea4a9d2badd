-- What a ferry keeps true.
use Rattle.std.specs.Prelude.{◌≡◌, ◌+◌, ℕ, sum_by}
use Rattle.rtrb.specs.Ring.{received, sent, SameConsumer, SameProducer}
use Rattle.rtrb.specs.declared.AnyItems.{AnyItems}
use Rattle.rtrb.specs.declared.consumer.Consumer.{Consumer}
use Rattle.rtrb.specs.declared.producer.Producer.{Producer}
use Rattle.std.specs.declared.alloc.Global.{Global}
use Rattle.server_jobs.specs.Cards.{Card, of_note, of_parcel}
use Rattle.server_jobs.specs.declared.note.Note.{Note}
use Rattle.server_jobs.specs.declared.parcel.Parcel.{Parcel}
use Rattle.service_core.specs.Link.{Identity}

-- From two ends to two ends: they are the same, and what was received between was sent on, each connection once.
pub record Carries {L : Type 0} (identity : L → Identity) (inward : Consumer (Parcel L) Global AnyItems) (outward : Producer (Note L) Global AnyItems)
    (inward_now : Consumer (Parcel L) Global AnyItems) (outward_now : Producer (Note L) Global AnyItems) : Type 0 where
  pub same_inward : SameConsumer inward inward_now
  pub same_outward : SameProducer outward outward_now
  pub once : (h : Card → ℕ) →
      sum_by (of_parcel identity h) (received inward_now) + sum_by (of_note identity h) (sent outward)
      ≡ sum_by (of_parcel identity h) (received inward) + sum_by (of_note identity h) (sent outward_now)
