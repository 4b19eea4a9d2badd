-- What is known of the connections of a worker's job once its thread is joined.
use Rattle.std.specs.Prelude.{◌≡◌, ◌+◌, ℕ, sum_by}
use Rattle.rtrb.specs.Ring.{received, sent, known_items, ConsumerLooked, IsPair, ProducerLooked, SameConsumer, SameProducer}
use Rattle.rtrb.specs.declared.AnyItems.{AnyItems}
use Rattle.rtrb.specs.declared.consumer.Consumer.{Consumer}
use Rattle.rtrb.specs.declared.producer.Producer.{Producer}
use Rattle.service_core.specs.Link.{Identity}
use Rattle.std.specs.declared.alloc.Global.{Global}
use Rattle.server_jobs.specs.Cards.{Card, of_note, of_parcel, of_waiting}
use Rattle.server_jobs.specs.Jobs.{job_of}
use Rattle.server_jobs.specs.declared.handed.Handed.{Handed}
use Rattle.server_jobs.specs.declared.line.Joined.{Joined}
use Rattle.server_jobs.specs.declared.line.Line.{Line}
use Rattle.server_jobs.specs.declared.note.Note.{Note}
use Rattle.server_jobs.specs.declared.parcel.Parcel.{Parcel}

module _ {L : Type 0} (identity : L → Identity) where
  -- What a worker's job accounts for, by its ends of the two rings as they stood at its start: they are the same ends, and each
  -- connection that it received since is in a note that it sent since or is handed over, once.
  pub record Accounts {F D : Type 0} (inward : Consumer (Parcel L) Global AnyItems) (outward : Producer (Note L) Global AnyItems) (out : Handed L F D) : Type 0 where
    pub same_inward : SameConsumer inward out.parcels
    pub same_outward : SameProducer outward out.notes
    pub once : (h : Card → ℕ) →
        sum_by (of_parcel identity h) (received out.parcels) + sum_by (of_note identity h) (sent outward)
        ≡ (sum_by (of_parcel identity h) (received inward) + sum_by (of_note identity h) (sent out.notes))
        + (sum_by (of_note identity h) out.owed.items + sum_by (of_waiting identity h) out.rest.items)

  -- Each connection that was received from the one ring was sent back on the other, once.
  abbrev pub IsBalanced : Consumer (Parcel L) Global AnyItems → Producer (Note L) Global AnyItems → Type 0
  IsBalanced inward outward = (h : Card → ℕ) → sum_by (of_parcel identity h) (received inward) ≡ sum_by (of_note identity h) (sent outward)

  -- The job has the other ends of the line's rings, accounts for them by its promise, and began where each connection that had come was sent back.
  pub record IsLine {F D J O : Type 0} (promise : J → O → Type 0) (handed : O → Handed L F D) (line : Line L J O) : Type 0 where
    pub inward : Consumer (Parcel L) Global AnyItems
    pub outward : Producer (Note L) Global AnyItems
    pub to_it : IsPair line.parcels inward
    pub from_it : IsPair outward line.notes
    pub balanced : IsBalanced inward outward
    pub accounts : (out : O) → promise (job_of line.running) out → Accounts inward outward (handed out)

  -- What was put on the ring to the job is what came back, what is on its way back, what is owed or handed over, and what is left in
  -- that ring: each connection once, however connections are weighed.
  abbrev pub EachOnce : {F D : Type 0} → Joined L F D → Type 0
  EachOnce j = (h : Card → ℕ) → sum_by (of_parcel identity h) (sent j.parcels)
      ≡ (sum_by (of_note identity h) (received j.notes) + sum_by (of_note identity h) (known_items j.notes))
      + ((sum_by (of_note identity h) j.handed.owed.items + sum_by (of_waiting identity h) j.handed.rest.items)
      + sum_by (of_parcel identity h) (known_items j.handed.parcels))

-- what the job handed over is what it promised, but for what its ends of the rings have looked at since
pub record Hands {L F D J O : Type 0} (promise : J → O → Type 0) (handed : O → Handed L F D) (line : Line L J O) (j : Joined L F D) : Type 0 where
  pub out : O
  pub promised : promise (job_of line.running) out
  pub inward : ConsumerLooked (handed out).parcels j.handed.parcels
  pub outward : ProducerLooked (handed out).notes j.handed.notes
  pub same : (j.handed.factory ≡ (handed out).factory) × (j.handed.owed ≡ (handed out).owed) × (j.handed.rest ≡ (handed out).rest)
      × (j.handed.departure ≡ (handed out).departure)
