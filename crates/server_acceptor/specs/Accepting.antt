-- What a turn of the acceptor does to the listeners, the rings and the holder of what is done.
use Rattle.std.specs.Prelude.{◌≡◌, ◌≢◌, ◌⊎◌, ◌≤◌, ◌<◌, ℕ, ◌+◌, ◌-◌, ◌*◌, ◌^◌, ◌++◌, ◌∷◌, [], min, cond, nat_lt, Bool, true, false, List, length, sum, All, Contains, count_by, nat_eq, Option, Some, None, IfSome, IsSomeAnd, slice_get, slice_index, slice_index_or, is_some}
use Rattle.std.specs.FinSet as set
use Rattle.std.specs.Option.{option_map, option_map_or}
use Rattle.rtrb.specs.Ring.{known_items, received}
use Rattle.rtrb.specs.declared.consumer.Consumer.{Consumer}
use Rattle.server_core.specs.Core.{Core, in_order}
use Rattle.server_core.specs.Runs.{AllAllowed, after_all}
use Rattle.server_core.specs.declared.event.Event.{Event}
use Rattle.server_core.specs.declared.event.Event.TheVariants.{Command, Back, Got, Sent, RingFull, ListenerFailed}
use Rattle.service_core.specs.Counts.{Rose}
use Rattle.service_core.specs.Link.{Identity}
use Rattle.server_run.specs.Delivery.{HasEnded, given_at, rest_at, rise}
use Rattle.server_run.specs.Done.{Adds}
use Rattle.server_run.specs.Outcome.{is_stopped}
use Rattle.server_run.specs.Listener.{Mark, fails, gives, in_a_row}
use Rattle.server_run.specs.Serving.{Untouched}
use Rattle.server_run.specs.declared.entry.Entry.{Entry}
use Rattle.server_run.specs.declared.report.End.{End}
use Rattle.server_run.specs.declared.report.End.TheVariants.{Drained, Stopped, NoWorkers, Memory}
use Rattle.server_jobs.specs.declared.note.Note.TheVariants.{Ready as ReadyNote, Faulted as FaultedNote}
use Rattle.server_jobs.specs.declared.note.Note.{Note}
use Rattle.server_jobs.specs.declared.parcel.Parcel.{Parcel}
use Rattle.server_acceptor.specs.Carrying.{Carries}
use Rattle.server_acceptor.specs.Logging.{AllOfUse}
use Rattle.server_acceptor.specs.Notes.{AreLeft, count_back}
use Rattle.server_acceptor.specs.Rings.{KeepsRings, count_put}
use Rattle.server_acceptor.specs.Sending.{IsForced, IsStopped, sent_to}
use Rattle.server_acceptor.specs.Stopping.{AwaitsStop, LacksStop}
use Rattle.server_acceptor.specs.Acceptors.{all_ready, core_of, events_of, failed_of, first_of, forced_of, lacks_room_of, limit_of, listeners_of, notes_of, parcels_of, ready_of, retry_limit_of, shutdown_timeout_of, stop_of, stopped_of, waiting_of, workers_of}
use Rattle.server_acceptor.specs.declared.acceptor.Acceptor.{Acceptor}

-- the kinds of events
abbrev pub is_got : ℕ → Event → Bool
is_got t (Got s) = nat_eq s t
is_got t _ = false

abbrev pub is_failed : ℕ → Event → Bool
is_failed t (ListenerFailed s) = nat_eq s t
is_failed t _ = false

abbrev pub is_sent : ℕ → Event → Bool
is_sent w (Sent v remains) = nat_eq v w
is_sent w _ = false

abbrev pub is_back : ℕ → Event → Bool
is_back w (Back v) = nat_eq v w
is_back w _ = false

abbrev pub is_command : Event → Bool
is_command (Command command) = true
is_command _ = false

-- what an event tells that came of this listener
abbrev pub mark_of : ℕ → Event → List Mark
mark_of t (Got s) = cond (nat_eq s t) (gives ∷ []) []
mark_of t (ListenerFailed s) = cond (nat_eq s t) (fails ∷ []) []
mark_of t _ = []

-- what these events tell that came of it, in order
abbrev pub marks_of : ℕ → List Event → List Mark
marks_of t [] = []
marks_of t (e ∷ es) = mark_of t e ++ marks_of t es

-- These events happened, each allowed where it stands. The core is what they make of it, and they tell what the listeners and the
-- rings did.
pub record Logged {Li L : Type 0} (given : Li → ℕ) (rest : Li → Option (List Mark)) (faults : Li → ℕ) (identity : L → Identity) (before after : List Li) (a b : Acceptor L) (events : List Event) : Type 0 where
  pub allowed : AllAllowed (core_of a) events
  pub core : core_of b ≡ after_all (core_of a) events
  pub got : (t : ℕ) → given_at given after t ≡ given_at given before t + count_by (is_got t) events
  pub failed : (t : ℕ) → 0 < count_by (is_failed t) events → Rose (given_at faults before t) (given_at faults after t)
  -- where a listener tells what comes, these came of it
  pub marked : (t : ℕ) → rest_at rest before t ≡ option_map (λ marks. marks_of t events ++ marks) (rest_at rest after t)
  -- the core counts how often one failed in a row
  pub failures : (t : ℕ) → slice_index (core_of b).failures t ≡ in_a_row (slice_index (core_of a).failures t) (marks_of t events)
  pub sent_on : (w : ℕ) → count_put identity (parcels_of b) w ≡ count_put identity (parcels_of a) w + count_by (is_sent w) events
  pub back : (w : ℕ) → count_back identity (notes_of b) w ≡ count_back identity (notes_of a) w + count_by (is_back w) events

-- What it took from the rings was added to `done`, and what it took from the listeners is carried as what came before. Only where
-- `last` says that no worker is left it let something go for that.
pub record Passes {Li L D : Type 0} (given : Li → ℕ) (left : Li → Option (List L)) (identity : L → Identity) (taken : D → Option (List (Entry L))) (count served : D → ℕ)
    (before after : List Li) (a b : Acceptor L) (old new : D) (last : Bool) : Type 0 where
  pub more : List (Entry L)
  pub adds : Adds taken count served old new more
  -- one that was stopped came only after a stop
  pub founded : All (λ e. is_stopped e.outcome ≡ true → is_some (core_of b).stopping ≡ true) more
  pub carries : (none_left : Bool) → (last ≡ true → none_left ≡ true) → (first : List Li) (entries : List (Entry L)) → Carries given left identity none_left first before a entries
      → Carries given left identity none_left first after b (entries ++ more)

-- The core tells of a listener that it ended where it did, or where it failed as often as it may.
pub record TellsEnds {Li : Type 0} (ended : Li → Bool) (faults : Li → ℕ) (retry_limit : ℕ) (before after : List Li) (old new : Core) : Type 0 where
  pub ends : (t : ℕ) → slice_index_or old.ended t false ≡ false → slice_index_or new.ended t false ≡ true
      → (HasEnded ended after t × (slice_index new.failures t ≢ retry_limit)) ⊎ ((slice_index new.failures t ≡ retry_limit) × Rose (given_at faults before t) (given_at faults after t))
  -- one that has ended is not asked again
  pub stays : (t : ℕ) → slice_index_or old.ended t false ≡ true
      → (slice_get after t ≡ slice_get before t) × (slice_index new.failures t ≡ slice_index old.failures t) × (slice_index_or new.ended t false ≡ true)
  -- the counts of faults never fall
  pub rises : (t : ℕ) → given_at faults before t ≤ given_at faults after t
  -- one that answers that it ended is marked so, and not as given up
  pub marks : (t : ℕ) → HasEnded ended after t → HasEnded ended before t ⊎ ((slice_index_or new.ended t false ≡ true) × (slice_index new.failures t ≢ retry_limit))

-- a worker of which it is marked that it is ready told so
abbrev pub IsNoted : {L : Type 0} → Acceptor L → Type 0
IsNoted a = (w : ℕ) → slice_index_or (ready_of a) w false ≡ true → IfSome (slice_get (notes_of a) w) (λ c. Contains (received c) ReadyNote)

-- Nothing is accepted until every worker has told that its services stand.
pub record Awaits {Li L D : Type 0} (given : Li → ℕ) (left : Li → Option (List L)) (taken : D → Option (List (Entry L))) (count served : D → ℕ) (before after : List Li) (a b : Acceptor L) (old new : D) : Type 0 where
  pub stays_ready : all_ready a ≡ true → all_ready b ≡ true
  pub early : all_ready b ≡ false → Untouched given left taken count served before after old new
  pub noted : IsNoted a → IsNoted b

-- what came back from w
abbrev pub received_at : {L A P : Type 0} → List (Consumer (Note L) A P) → ℕ → List (Note L)
received_at consumers w = option_map_or received (slice_get consumers w) []

-- notes may have come
pub record Receives {L : Type 0} (a b : Acceptor L) (w : ℕ) : Type 0 where
  pub more : List (Note L)
  pub came : received_at (notes_of b) w ≡ received_at (notes_of a) w ++ more

-- more may have gone to w
pub record Puts {L : Type 0} (a b : Acceptor L) (w : ℕ) : Type 0 where
  pub more : List (Parcel L)
  pub went : sent_to (parcels_of b) w ≡ sent_to (parcels_of a) w ++ more

-- What the acceptor did from a to b, by these events, with the listeners and the holder of what is done that it was lent; `last` says
-- that its end is that no worker is left.
pub record Acts {Li L D : Type 0} (given : Li → ℕ) (left : Li → Option (List L)) (rest : Li → Option (List Mark)) (identity : L → Identity) (ended : Li → Bool) (faults : Li → ℕ)
    (taken : D → Option (List (Entry L))) (count served : D → ℕ) (before after : List Li) (a b : Acceptor L) (old new : D) (events : List Event) (last : Bool) : Type 0 where
  -- the core follows the events, and these tell what the listeners and the rings did
  pub logged : Logged given rest faults identity before after a b events
  -- what came is on a ring, waits or was handed on, once
  pub passes : Passes given left identity taken count served before after a b old new last
  -- nothing is accepted before all workers are ready
  pub awaits : Awaits given left taken count served before after a b old new
  pub tells : TellsEnds ended faults (retry_limit_of a) before after (core_of a) (core_of b)
  -- the rings and the listeners stay the same ones
  pub rings : KeepsRings a b
  pub puts : (w : ℕ) → Puts a b w
  pub receives : (w : ℕ) → Receives a b w
  pub as_many : length after ≡ length before
  pub workers : workers_of b ≡ workers_of a
  pub listeners : listeners_of b ≡ listeners_of a
  pub limit : retry_limit_of b ≡ retry_limit_of a
  pub max : limit_of b ≡ limit_of a
  pub lacks : lacks_room_of a ≡ true → lacks_room_of b ≡ true
  -- a stop is for ever
  pub stops : is_some (core_of a).stopping ≡ true → is_some (core_of b).stopping ≡ true

-- The same while workers are left, by events of use alone.
pub record Does {Li L D : Type 0} (given : Li → ℕ) (left : Li → Option (List L)) (rest : Li → Option (List Mark)) (identity : L → Identity) (ended : Li → Bool) (faults : Li → ℕ)
    (taken : D → Option (List (Entry L))) (count served : D → ℕ) (before after : List Li) (a b : Acceptor L) (old new : D) (events : List Event) : Type 0 where
  pub acts : Acts given left rest identity ended faults taken count served before after a b old new events false
  pub of_use : AllOfUse (core_of a) events

-- The same by more events than before.
pub record Proceeds {Li L D : Type 0} (given : Li → ℕ) (left : Li → Option (List L)) (rest : Li → Option (List Mark)) (identity : L → Identity) (ended : Li → Bool) (faults : Li → ℕ)
    (taken : D → Option (List (Entry L))) (count served : D → ℕ) (before after : List Li) (a b : Acceptor L) (old new : D) : Type 0 where
  pub more : List Event
  pub appended : events_of b ≡ events_of a ++ more
  pub does : Does given left rest identity ended faults taken count served before after a b old new more

-- none where w refused before, and else w with those that did
abbrev pub once_more : Bool → List ℕ → ℕ → Option (List ℕ)
once_more true full w = None
once_more false full w = Some (w ∷ full)

-- The workers whose rings refused a connection since one was sent; none where one of them refused twice.
abbrev pub refused_by : Option (List ℕ) → Event → Option (List ℕ)
refused_by None _ = None
refused_by (Some full) (RingFull w) = once_more (in_order full w) full w
refused_by (Some full) (Sent w remains) = Some []
refused_by (Some full) _ = Some full

abbrev pub refused : Option (List ℕ) → List Event → Option (List ℕ)
refused full [] = full
refused full (e ∷ es) = refused (refused_by full e) es

-- each listener failed at most once in these events, and no ring refused twice without a connection sent between
pub record OnceEach (events : List Event) : Type 0 where
  pub failures : (t : ℕ) → count_by (is_failed t) events ≤ 1
  pub refusals : is_some (refused (Some []) events) ≡ true

-- there is not room for the events of one connection more
abbrev pub IsShort : {L : Type 0} → Acceptor L → Type 0
IsShort a = 8 * workers_of a + 600 < length (events_of a) + (2 * workers_of a + 4)

-- No note of w is known, unless the first one hands a connection back and w has none, or hands back one that was stopped and no stop came.
abbrev pub HasTold : {L : Type 0} → Acceptor L → ℕ → Type 0
HasTold a w = IfSome (slice_get (notes_of a) w) (λ c. AreLeft (slice_index (core_of a).out w) (core_of a).stopping (known_items c))

-- no note is left that may be taken
abbrev pub HasTaken : {L : Type 0} → Acceptor L → Type 0
HasTaken a = (w : ℕ) → HasTold a w ⊎ IsShort a

-- the ring of each free worker refused the connection that waits
abbrev pub IsRefused : {L : Type 0} → Acceptor L → Type 0
IsRefused a = (w : ℕ) → set.contains (core_of a).free w ≡ true → Contains (events_of a) (RingFull w)

-- A listener may be asked: nothing waits, no ring refused a connection since one was sent, and no note is left that may be taken.
pub record MayAsk {L : Type 0} (a : Acceptor L) : Type 0 where
  pub none : waiting_of a ≡ None
  pub unrefused : refused (Some []) (events_of a) ≡ Some []
  pub told : HasTaken a

-- Why nothing more is done in a turn: room for events, the connection that waits, or room for an entry.
pub record HasHalted {L : Type 0} (a : Acceptor L) : Type 0 where
  pub cause : IsShort a ⊎ (((is_some (waiting_of a) ≡ true) × IsRefused a) ⊎ ((waiting_of a ≡ None) × (lacks_room_of a ≡ true)))
  pub told : HasTaken a

-- a count rose at least by n, or stands at its last value
abbrev pub RoseBy : ℕ → ℕ → ℕ → Type 0
RoseBy n before now = min (before + n) (2 ^ 64 - 1) ≤ now

-- it failed less than 500 ms ago
abbrev pub IsBackedOff : {L : Type 0} → Acceptor L → ℕ → ℕ → Type 0
IsBackedOff a now t = IsSomeAnd (slice_index_or (failed_of a) t None) (λ failed. now < failed + 500)

-- A listener has ended, was asked in vain, gave or passed over enough, or failed a short time ago.
abbrev pub IsAskedOut : {Li L : Type 0} → (Li → ℕ) → (Li → ℕ) → (Li → ℕ) → List Li → List Li → Acceptor L → ℕ → ℕ → Type 0
IsAskedOut given waits skips before after a now t =
    (slice_index_or (core_of a).ended t true ≡ true)
    ⊎ (Rose (given_at waits before t) (given_at waits after t)
    ⊎ (((skipped : ℕ) × (256 ≤ rise given before after t + skipped) × RoseBy skipped (given_at skips before t) (given_at skips after t))
    ⊎ IsBackedOff a now t))

-- a listener gave a connection, or passed one over
abbrev pub GaveOrSkipped : {Li : Type 0} → (Li → ℕ) → (Li → ℕ) → List Li → List Li → ℕ → Type 0
GaveOrSkipped given skips before after t = (given_at given after t ≡ given_at given before t + 1)
    ⊎ ((given_at given after t ≡ given_at given before t) × Rose (given_at skips before t) (given_at skips after t))

-- a listener has ended, was asked in vain, or failed
abbrev pub HasSettled : {Li L : Type 0} → (Li → ℕ) → List Li → List Li → Acceptor L → ℕ → ℕ → Type 0
HasSettled waits before after a now t = (slice_index_or (core_of a).ended t true ≡ true)
    ⊎ (Rose (given_at waits before t) (given_at waits after t) ⊎ IsBackedOff a now t)

abbrev pub IsOutside : ℕ → ℕ → ℕ → Type 0
IsOutside from to t = (t < from) ⊎ (to ≤ t)

-- neither a pause nor a stop keeps it from accepting
abbrev pub IsAccepting : Core → Type 0
IsAccepting s = (s.paused ≡ false) × (s.stopping ≡ None)

-- What the taking of notes, the placing and the asking leave as it was: no command came, and no stop went out.
pub record LeavesStops {L : Type 0} (a b : Acceptor L) : Type 0 where
  pub commands : count_by is_command (events_of b) ≡ count_by is_command (events_of a)
  pub paused : (core_of b).paused ≡ (core_of a).paused
  pub stopping : (core_of b).stopping ≡ (core_of a).stopping
  pub stop : stop_of b ≡ stop_of a
  pub timeout : shutdown_timeout_of b ≡ shutdown_timeout_of a
  pub forced : (w : ℕ) → IsForced (parcels_of b) w → IsForced (parcels_of a) w
  pub stopped : (w : ℕ) → IsStopped (parcels_of b) w → IsStopped (parcels_of a) w

-- Of the listeners, only those from one token on to another were asked, and each of them failed at most once.
pub record AsksFrom {Li L : Type 0} (before after : List Li) (a b : Acceptor L) (from to : ℕ) : Type 0 where
  pub leaves : LeavesStops a b
  pub first : first_of b ≡ first_of a
  pub listeners : (t : ℕ) → IsOutside from to t → slice_get after t ≡ slice_get before t
  pub failed : (t : ℕ) → IsOutside from to t → slice_index_or (failed_of b) t None ≡ slice_index_or (failed_of a) t None
  pub ended : (t : ℕ) → IsOutside from to t → slice_index_or (core_of b).ended t true ≡ slice_index_or (core_of a).ended t true
  pub others : (t : ℕ) → IsOutside from to t → count_by (is_failed t) (events_of b) ≡ count_by (is_failed t) (events_of a)
  pub once : (t : ℕ) → count_by (is_failed t) (events_of b) ≤ count_by (is_failed t) (events_of a) + 1

-- the place of a listener in the round that begins at the first one
abbrev pub turn_of : ℕ → ℕ → ℕ → ℕ
turn_of first listeners t = cond (nat_lt t first) (t + listeners - first) (t - first)

-- Which listeners were asked: each in its turn, and none that failed a short time ago.
pub record AsksInTurn {Li L : Type 0} (given waits skips : Li → ℕ) (before after : List Li) (a b : Acceptor L) (now : ℕ) : Type 0 where
  -- one is asked only where those before it in the round are asked out
  pub order : (t u : ℕ) → t < listeners_of b → u < listeners_of b → turn_of (first_of a) (listeners_of b) t < turn_of (first_of a) (listeners_of b) u
      → (slice_get after u ≡ slice_get before u) ⊎ IsAskedOut given waits skips before after b now t
  pub rests : (t : ℕ) → IsBackedOff a now t → slice_get after t ≡ slice_get before t

-- nothing more is accepted
abbrev pub IsOver : {L : Type 0} → Acceptor L → Type 0
IsOver a = (lacks_room_of a ≡ true) ⊎ ((t : ℕ) → t < listeners_of a → slice_index_or (core_of a).ended t false ≡ true)

-- nothing more is accepted, nothing waits, and no worker has a connection
abbrev pub IsDone : {L : Type 0} → Acceptor L → Type 0
IsDone a = IsOver a × (waiting_of a ≡ None) × (sum (core_of a).out ≡ 0)

-- the workers may leave, by a stop, or since there is nothing left to do
abbrev pub IsClosing : {L : Type 0} → Acceptor L → Type 0
IsClosing a = (is_some (core_of a).stopping ≡ true) ⊎ IsDone a

-- What the acceptor waits for when it goes on.
pub record AcceptGoesOn {Li L Co : Type 0} (given waits skips : Li → ℕ) (idles : Co → ℕ) (before after : List Li) (source source_then : Co) (a : Acceptor L) (now : ℕ) : Type 0 where
  -- the source of commands has no more for now, or gave as many as are taken in a turn
  pub commands : Rose (idles source) (idles source_then) ⊎ (256 ≤ count_by is_command (events_of a))
  pub notes : (w : ℕ) → HasTold a w
  pub placing : is_some (waiting_of a) ≡ true → IsRefused a
  -- where it may accept, it has asked each listener
  pub asked : waiting_of a ≡ None → all_ready a ≡ true → lacks_room_of a ≡ false → IsAccepting (core_of a) → count_by is_command (events_of a) < 256
      → (t : ℕ) → t < listeners_of a → IsAskedOut given waits skips before after a now t
  -- where nothing more comes and nothing is out, it waits to send a stop
  pub stops : (core_of a).stopping ≡ None → IsOver a → waiting_of a ≡ None → sum (core_of a).out ≡ 0 → (w : ℕ) × LacksStop a w
  -- after a stop it waits to send a stop or a force message, or for what is out
  pub stop : is_some (core_of a).stopping ≡ true → AwaitsStop a now

-- why it is finished
abbrev pub Finishes : {L : Type 0} → Acceptor L → End → Type 0
Finishes a Drained = ((t : ℕ) → t < listeners_of a → slice_index_or (core_of a).ended t false ≡ true)
    × (waiting_of a ≡ None) × (sum (core_of a).out ≡ 0) × All (λ stopped. stopped ≡ true) (stopped_of a) × ((core_of a).stopping ≡ None)
Finishes a (Stopped graceful) = ((core_of a).stopping ≡ Some graceful)
    × (waiting_of a ≡ None) × All (λ stopped. stopped ≡ true) (stopped_of a) × ((sum (core_of a).out ≡ 0) ⊎ All (λ forced. forced ≡ true) (forced_of a))
Finishes a NoWorkers = ⊥
Finishes a Memory = (lacks_room_of a ≡ true)
    × (waiting_of a ≡ None) × (sum (core_of a).out ≡ 0) × All (λ stopped. stopped ≡ true) (stopped_of a) × ((core_of a).stopping ≡ None)

-- the note that w ends by a fault was taken in between
pub record EndsByFault {L : Type 0} (a b : Acceptor L) (w : ℕ) : Type 0 where
  pub more : List (Note L)
  pub came : received_at (notes_of b) w ≡ received_at (notes_of a) w ++ more
  pub faulted : Contains more FaultedNote
