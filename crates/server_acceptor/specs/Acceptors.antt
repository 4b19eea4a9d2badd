-- Words on an acceptor.
use Rattle.std.specs.Prelude.{ℕ, Bool, List, length, Option, sum, ◌+◌}
use Rattle.std.specs.List.{list_all}
use Rattle.std.specs.declared.alloc.Global.{Global}
use Rattle.rtrb.specs.declared.AnyItems.{AnyItems}
use Rattle.rtrb.specs.declared.consumer.Consumer.{Consumer}
use Rattle.rtrb.specs.declared.producer.Producer.{Producer}
use Rattle.server_core.specs.Core.{Core, held}
use Rattle.server_core.specs.declared.event.Event.{Event}
use Rattle.server_jobs.specs.declared.note.Note.{Note}
use Rattle.server_jobs.specs.declared.parcel.Parcel.{Parcel}
use Rattle.server_jobs.specs.declared.waiting.Waiting.{Waiting}
use Rattle.server_acceptor.specs.declared.acceptor.Acceptor.{Acceptor}
use Rattle.server_acceptor.specs.declared.stop.Stop.{Stop}

module _ {L : Type 0} where
  -- what it knows of the workers and the listeners
  abbrev pub core_of : Acceptor L → Core
  core_of a = a.core

  -- the events of the last turn, and of the calls of `place` since
  abbrev pub events_of : Acceptor L → List Event
  events_of a = a.events.items

  -- its ends of the rings to the workers, and of those back
  abbrev pub parcels_of : Acceptor L → List (Producer (Parcel L) Global AnyItems)
  parcels_of a = a.parcels.items

  abbrev pub notes_of : Acceptor L → List (Consumer (Note L) Global AnyItems)
  notes_of a = a.notes.items

  -- which workers told that their services stand, and which got a stop
  abbrev pub ready_of : Acceptor L → List Bool
  ready_of a = a.ready.items

  abbrev pub stopped_of : Acceptor L → List Bool
  stopped_of a = a.stopped.items

  -- which workers got a stop that is not graceful
  abbrev pub forced_of : Acceptor L → List Bool
  forced_of a = a.forced.items

  -- the first stop that was taken up
  abbrev pub stop_of : Acceptor L → Option Stop
  stop_of a = a.stop

  -- the connection that no worker could take yet
  abbrev pub waiting_of : Acceptor L → Option (Waiting L)
  waiting_of a = a.waiting

  -- how many connections came in all, and from each listener
  abbrev pub serial_of : Acceptor L → ℕ
  serial_of a = a.serial

  abbrev pub places_of : Acceptor L → List ℕ
  places_of a = a.places.items

  -- when each listener failed last
  abbrev pub failed_of : Acceptor L → List (Option ℕ)
  failed_of a = a.failed.items

  -- the listener that is asked first
  abbrev pub first_of : Acceptor L → ℕ
  first_of a = a.first

  -- how many connections a worker may have
  abbrev pub limit_of : Acceptor L → ℕ
  limit_of a = a.limit

  -- how often a listener may fail with no connection between
  abbrev pub retry_limit_of : Acceptor L → ℕ
  retry_limit_of a = a.retry_limit

  -- how many seconds a worker has after a stop
  abbrev pub shutdown_timeout_of : Acceptor L → ℕ
  shutdown_timeout_of a = a.shutdown_timeout

  -- room for an entry was refused
  abbrev pub lacks_room_of : Acceptor L → Bool
  lacks_room_of a = a.lacks_room

  abbrev pub workers_of : Acceptor L → ℕ
  workers_of a = length a.core.out

  abbrev pub listeners_of : Acceptor L → ℕ
  listeners_of a = length a.core.ended

  -- how many connections are at workers, or wait
  abbrev pub out_of : Acceptor L → ℕ
  out_of a = sum a.core.out + held a.core.waiting

  -- every worker told that its services stand
  abbrev pub all_ready : Acceptor L → Bool
  all_ready a = list_all (λ ready. ready) a.ready.items
