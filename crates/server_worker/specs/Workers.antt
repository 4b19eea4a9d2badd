-- Words on a worker.
use Rattle.std.specs.Prelude.{ℕ, ◌+◌, ◌&&◌, Bool, not, List, length}
use Rattle.std.specs.Vec.{vec_len}
use Rattle.std.specs.VecDeque.{deque_len}
use Rattle.std.specs.declared.alloc.Global.{Global}
use Rattle.rtrb.specs.declared.AnyItems.{AnyItems}
use Rattle.rtrb.specs.declared.consumer.Consumer.{Consumer}
use Rattle.rtrb.specs.declared.producer.Producer.{Producer}
use Rattle.server_jobs.specs.declared.note.Note.{Note}
use Rattle.server_jobs.specs.declared.parcel.Parcel.{Parcel}
use Rattle.server_jobs.specs.declared.waiting.Waiting.{Waiting}
use Rattle.worker_core.specs.WorkerCore.{Worker as Core}
use Rattle.server_worker.specs.declared.connections.Connections.{Connections}
use Rattle.server_worker.specs.declared.services.Services.{Services}
use Rattle.server_worker.specs.declared.slot.Slot.{Slot}
use Rattle.server_worker.specs.declared.worker.Worker.{Worker}

module _ {L F Fac E S I MFut Fut : Type 0} where
  abbrev pub factory_of : Worker L F Fac E S I MFut Fut → F
  factory_of w = w.factory

  -- its services, by token
  abbrev pub services_of : Worker L F Fac E S I MFut Fut → Services Fac MFut S E
  services_of w = w.services

  abbrev pub slots_of : Worker L F Fac E S I MFut Fut → List (Slot MFut S E)
  slots_of w = w.services.slots.items

  -- for how many listeners it has services
  abbrev pub listeners_of : Worker L F Fac E S I MFut Fut → ℕ
  listeners_of w = length w.services.slots.items

  -- what it knows of the readiness of its services
  abbrev pub core_of : Worker L F Fac E S I MFut Fut → Core
  core_of w = w.services.core

  -- all of its services stand
  abbrev pub made_of : Worker L F Fac E S I MFut Fut → Bool
  made_of w = w.services.made

  -- its connections, and its ends of the two rings
  abbrev pub hand_of : Worker L F Fac E S I MFut Fut → Connections L Fut
  hand_of w = w.hand

  abbrev pub parcels_of : Worker L F Fac E S I MFut Fut → Consumer (Parcel L) Global AnyItems
  parcels_of w = w.hand.parcels

  abbrev pub notes_of : Worker L F Fac E S I MFut Fut → Producer (Note L) Global AnyItems
  notes_of w = w.hand.notes

  -- those that wait for their service
  abbrev pub queue_of : Worker L F Fac E S I MFut Fut → List (Waiting L)
  queue_of w = w.hand.queue.items

  -- it took a stop
  abbrev pub stopped_of : Worker L F Fac E S I MFut Fut → Bool
  stopped_of w = w.hand.stopped

  -- it took a stop that is not graceful
  abbrev pub forced_of : Worker L F Fac E S I MFut Fut → Bool
  forced_of w = w.hand.forced

  -- it asks its services whether they are ready: they stand, and it took no stop
  abbrev pub is_asking : Worker L F Fac E S I MFut Fut → Bool
  is_asking w = w.services.made && not w.hand.stopped

  -- it told that all its services stand, or is to tell it by what is owed
  abbrev pub told_of : Worker L F Fac E S I MFut Fut → Bool
  told_of w = w.hand.told

  -- how many connections it held at the end of the last turn, or, after a stop that is not graceful, were live before it
  abbrev pub total_of : Worker L F Fac E S I MFut Fut → ℕ
  total_of w = w.total

  -- how many it holds
  abbrev pub held_by : Worker L F Fac E S I MFut Fut → ℕ
  held_by w = vec_len w.hand.live + (deque_len w.hand.queue + vec_len w.hand.strays)
