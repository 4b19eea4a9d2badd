-- An acceptor at its start, and the room for one.
use Rattle.std.specs.Prelude.{◌≡◌, ℕ, ◌+◌, ◌*◌, List, [], length, replicate, vec_capacity, None, false}
use Rattle.std.specs.declared.alloc.Global.{Global}
use Rattle.rtrb.specs.declared.AnyItems.{AnyItems}
use Rattle.rtrb.specs.declared.consumer.Consumer.{Consumer}
use Rattle.rtrb.specs.declared.producer.Producer.{Producer}
use Rattle.server_core.specs.Core.{fresh}
use Rattle.server_jobs.specs.declared.note.Note.{Note}
use Rattle.server_jobs.specs.declared.parcel.Parcel.{Parcel}
use Rattle.server_acceptor.specs.Acceptors.{core_of, events_of, failed_of, first_of, forced_of, lacks_room_of, limit_of, notes_of, parcels_of, places_of, ready_of, retry_limit_of, serial_of, shutdown_timeout_of, stop_of, stopped_of, waiting_of}
use Rattle.server_acceptor.specs.declared.acceptor.Acceptor.{Acceptor}
use Rattle.server_acceptor.specs.declared.room.Room.{Room}

-- Room for so many workers and listeners: for 8 events a worker and 600 more, and with the marks and counts as they stand before anything came.
pub record IsRoomFor (room : Room) (workers listeners : ℕ) : Type 0 where
  pub events : (room.events.items ≡ []) × (vec_capacity room.events ≡ 8 * workers + 600)
  pub ready : room.ready.items ≡ replicate workers false
  pub stopped : room.stopped.items ≡ replicate workers false
  pub forced : room.forced.items ≡ replicate workers false
  pub places : room.places.items ≡ replicate listeners 0
  pub failed : room.failed.items ≡ replicate listeners None

-- It has these ends of the rings. Nothing has come, no worker told anything, none got a stop, and none was taken up.
pub record IsNew {L : Type 0} (a : Acceptor L) (parcels : List (Producer (Parcel L) Global AnyItems)) (notes : List (Consumer (Note L) Global AnyItems)) (listeners limit retry_limit shutdown_timeout : ℕ) : Type 0 where
  pub core : core_of a ≡ fresh (length parcels) listeners
  pub events : events_of a ≡ []
  pub producers : parcels_of a ≡ parcels
  pub consumers : notes_of a ≡ notes
  pub ready : ready_of a ≡ replicate (length parcels) false
  pub stopped : stopped_of a ≡ replicate (length parcels) false
  pub forced : forced_of a ≡ replicate (length parcels) false
  pub stop : stop_of a ≡ None
  pub waiting : waiting_of a ≡ None
  pub serial : serial_of a ≡ 0
  pub places : places_of a ≡ replicate listeners 0
  pub failed : failed_of a ≡ replicate listeners None
  pub first : first_of a ≡ 0
  pub room : lacks_room_of a ≡ false
  pub same_limit : limit_of a ≡ limit
  pub same_retry_limit : retry_limit_of a ≡ retry_limit
  pub same_timeout : shutdown_timeout_of a ≡ shutdown_timeout
