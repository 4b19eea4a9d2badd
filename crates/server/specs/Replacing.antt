-- Workers that end by a fault while the server accepts: what they had comes back, and another one takes their place, or none.
use Rattle.std.specs.Prelude.{◌≡◌, ◌≢◌, ◌⊎◌, ◌++◌, ℕ, ◌+◌, ◌-◌, ◌^◌, ◌≤◌, ◌<◌, Bool, true, false, List, All, Contains, None, Option, Some, IfSome, length, map, min, slice_get, slice_index, sum, sum_by}
use Rattle.std.specs.List.{list_any}
use Rattle.std.specs.FinSet as set
use Rattle.std.specs.declared.alloc.Global.{Global}
use Rattle.rtrb.specs.Ring.{IsPair, SameConsumer, SameProducer, known_free, known_items, producer_capacity, received, sent}
use Rattle.rtrb.specs.declared.AnyItems.{AnyItems}
use Rattle.rtrb.specs.declared.consumer.Consumer.{Consumer}
use Rattle.rtrb.specs.declared.producer.Producer.{Producer}
use Rattle.service_core.specs.Link.{Identity}
use Rattle.service_core.specs.Meaning.{Readiness}
use Rattle.service_core.specs.declared.ended.Ended.{Ended}
use Rattle.server_acceptor.specs.Accepting.{Acts, received_at}
use Rattle.server_acceptor.specs.Acceptors.{core_of, notes_of as rings_back, parcels_of as rings_to, waiting_of, workers_of}
use Rattle.server_acceptor.specs.Notes.{count_back}
use Rattle.server_acceptor.specs.Parting.{LeavesRest}
use Rattle.server_acceptor.specs.Rings.{count_put, ring_in, ring_out}
use Rattle.server_acceptor.specs.declared.acceptor.Acceptor.{Acceptor}
use Rattle.server_core.specs.Core.{Core, in_order}
use Rattle.server_core.specs.declared.event.Event.{Event}
use Rattle.server_jobs.specs.Cards.{Card, of_note, of_parcel}
use Rattle.server_jobs.specs.Jobs.{job_of}
use Rattle.server_jobs.specs.Parcels.{is_stop}
use Rattle.server_jobs.specs.Returning.{entries_of, entry_of_note, entry_of_waiting}
use Rattle.server_jobs.specs.declared.handed.Handed.{Handed}
use Rattle.server_jobs.specs.declared.line.Line.{Line}
use Rattle.server_jobs.specs.declared.note.Note.{Note}
use Rattle.server_jobs.specs.declared.note.Note.TheVariants.{Back, Faulted, Ready}
use Rattle.server_jobs.specs.declared.parcel.Parcel.{Parcel}
use Rattle.server_jobs.specs.declared.parcel.Parcel.TheVariants.{Conn, Stop as StopParcel}
use Rattle.server_jobs.specs.declared.running.Running.{Running}
use Rattle.server_run.specs.Serving.{MayFault}
use Rattle.server_run.specs.declared.entry.Entry.{Entry}
use Rattle.server_run.specs.Listener.{Mark}
use Rattle.server_run.specs.declared.outcome.Outcome.{Outcome}
use Rattle.server_run.specs.declared.outcome.Outcome.TheVariants.{Lost, Stopped}
use Rattle.server.specs.Rows.{by_job}
use Rattle.server.specs.Starting.{RunsFor}
use Rattle.server.specs.Tales.{IsTale}
use Rattle.worker_job.specs.Jobs.{factory_of, listeners_of, notes_of, parcels_of}
use Rattle.worker_job.specs.declared.worker_job.WorkerJob.{WorkerJob}

-- a connection that is left in the ring to a worker comes back as it came, with this outcome
abbrev pub entry_left : {L : Type 0} → Outcome → Parcel L → Option (Entry L)
entry_left outcome (Conn serial token place link) = Some (record { serial = serial; token = token; place = place; link = link; outcome = outcome })
entry_left outcome (StopParcel graceful) = None

-- the notes that hand these back
abbrev pub backs : {L : Type 0} → List (Entry L) → List (Note L)
backs entries = map Back entries

-- A worker that is retired: each connection that was put on its ring came back, and what came back is true.
pub record IsSettled {L : Type 0} (identity : L → Identity) (workers : ℕ) (may_fault : Type 0) (may_serve : ℕ → L → Ended L → Type 0) (may_leave : ℕ → L → L → Type 0) (may_make : ℕ → Type 0) (listeners : ℕ)
    (p : Producer (Parcel L) Global AnyItems) (n : Consumer (Note L) Global AnyItems) : Type 0 where
  pub balanced : (h : Card → ℕ) → sum_by (of_parcel identity h) (sent p) ≡ sum_by (of_note identity h) (received n)
  pub told : All (IsTale workers may_fault may_serve may_leave may_make listeners (sent p)) (received n)

module _ {F L E I : Type 0} (may_serve : F → ℕ → L → Ended L → Type 0) (may_leave : F → ℕ → L → L → Type 0) (may_ready : F → ℕ → Readiness E → Type 0)
    (may_init : F → ℕ → I → Type 0) (may_make : F → ℕ → Type 0) (identity : L → Identity) (factory : F) (listeners : ℕ) where
  -- It is retired, and gets no connection.
  pub record IsRetired (workers : ℕ) (w : ℕ) (core : Core) (p : Producer (Parcel L) Global AnyItems) (n : Consumer (Note L) Global AnyItems) : Type 0 where
    pub settled : IsSettled identity workers (MayFault (may_ready factory) (may_init factory) listeners) (may_serve factory) (may_leave factory) (may_make factory) listeners p n
    pub off : in_order core.order w ≡ false
    pub gone : set.contains core.retired w ≡ true
    pub makes : (token : ℕ) → token < listeners → may_make factory token
    pub fault : MayFault (may_ready factory) (may_init factory) listeners

  module _ {O : Type 0} where
    -- These notes came over the line since its job began.
    abbrev pub CameSince : Line L (WorkerJob L F) O → List (Note L) → Type 0
    CameSince line more = received line.notes ≡ sent (notes_of (job_of line.running)) ++ more

    -- One of so many workers runs, and is not retired.
    pub record Runs (workers : ℕ) (w : ℕ) (core : Core) (line : Line L (WorkerJob L F) O) : Type 0 where
      pub runs : RunsFor may_serve may_leave may_ready may_init may_make identity workers factory listeners line
      pub more : List (Note L)
      pub since : CameSince line more
      pub kept : set.contains core.retired w ≡ false

    -- The workers of a run between two turns of the acceptor: each runs or is retired.
    pub record Crew (a : Acceptor L) (rs : List (Option (Running (WorkerJob L F) O))) : Type 0 where
      pub as_many : (length (rings_to a) ≡ length rs) × (length (rings_back a) ≡ length rs)
      pub each : (w : ℕ) (p : Producer (Parcel L) Global AnyItems) (n : Consumer (Note L) Global AnyItems) (r : Option (Running (WorkerJob L F) O))
          → slice_get (rings_to a) w ≡ Some p → slice_get (rings_back a) w ≡ Some n → slice_get rs w ≡ Some r
          → by_job (Runs (length rs) w (core_of a)) (IsRetired (length rs) w (core_of a)) p n r

    -- A worker that runs told of a fault since its job began, and its place told before that its services stand.
    abbrev pub HasFaulted : Acceptor L → ℕ → List (Option (Running (WorkerJob L F) O)) → Type 0
    HasFaulted a w rs = (p : Producer (Parcel L) Global AnyItems) (n : Consumer (Note L) Global AnyItems) (r : Running (WorkerJob L F) O)
        → slice_get (rings_to a) w ≡ Some p → slice_get (rings_back a) w ≡ Some n → slice_get rs w ≡ Some (Some r)
        → Contains (received n) Ready × ((more : List (Note L)) × (received n ≡ sent (notes_of (job_of r)) ++ more) × Contains more Faulted)

-- for each worker what was put on its ring and has not come back is out
abbrev pub IsEven : {L : Type 0} → (L → Identity) → Acceptor L → Type 0
IsEven identity a = (w : ℕ) → count_put identity (rings_to a) w ≡ count_back identity (rings_back a) w + slice_index (core_of a).out w

-- So many connections may be taken back from w, over its ring, whose other end this is.
pub record MayTakeBack {L : Type 0} (a : Acceptor L) (w : ℕ) (p : Producer (Note L) Global AnyItems) (n : ℕ) : Type 0 where
  pub number : w < workers_of a
  pub pair : IfSome (slice_get (rings_back a) w) (λ c. IsPair p c)
  pub all : received_at (rings_back a) w ≡ sent p
  pub place : 0 < producer_capacity p
  pub off : in_order (core_of a).order w ≡ false
  pub enough : n ≤ slice_index (core_of a).out w

-- These were taken back from w, one after another, and nothing else changed.
pub record TakesBack {L : Type 0} (a b : Acceptor L) (w : ℕ) (p q : Producer (Note L) Global AnyItems) (entries : List (Entry L)) : Type 0 where
  pub same : SameProducer p q
  pub pair : IfSome (slice_get (rings_back b) w) (λ c. IsPair q c)
  pub went : sent q ≡ sent p ++ backs entries
  pub all : received_at (rings_back b) w ≡ sent q
  pub others : (v : ℕ) → v ≢ w → received_at (rings_back b) v ≡ received_at (rings_back a) v
  pub rings : (map ring_in (rings_to b) ≡ map ring_in (rings_to a)) × (map ring_out (rings_back b) ≡ map ring_out (rings_back a))
  pub waiting : waiting_of b ≡ waiting_of a
  pub order : (core_of b).order ≡ (core_of a).order
  pub retired : (core_of b).retired ≡ (core_of a).retired
  pub out : slice_index (core_of b).out w + length entries ≡ slice_index (core_of a).out w
  pub out_others : (v : ℕ) → v ≢ w → slice_index (core_of b).out v ≡ slice_index (core_of a).out v
  pub rest : LeavesRest a b

-- all that a worker has that was joined, as it comes back: what it owes, what had not ended, and what is left in the ring to it, with this outcome
abbrev pub all_back : {L F D : Type 0} → Outcome → ℕ → Handed L F D → List (Entry L)
all_back outcome w handed = entries_of entry_of_note handed.owed.items ++ (entries_of (entry_of_waiting w) handed.rest.items ++ entries_of (entry_left outcome) (known_items handed.parcels))

-- how what is left in the ring to a worker comes back, that ended by a fault: as it was given
abbrev pub IsLeftHere : ℕ → Outcome → Type 0
IsLeftHere worker outcome = (outcome ≡ Stopped false) ⊎ (outcome ≡ Lost (Some worker))

-- All that w had, which handed this over, was taken back over the ring whose other end came to this.
pub record Recalls {L F D : Type 0} (a b : Acceptor L) (w : ℕ) (handed : Handed L F D) : Type 0 where
  pub outcome : Outcome
  pub as_left : IsLeftHere w outcome
  pub notes : Producer (Note L) Global AnyItems
  pub takes : TakesBack a b w handed.notes notes (all_back outcome w handed)

-- A job takes the place of w, which handed this over: with the same ends of the rings, from which all was taken, and with no stop, and the same factory.
pub record IsSuccessor {L F D : Type 0} (b : Acceptor L) (w : ℕ) (handed : Handed L F D) (listeners : ℕ) (job : WorkerJob L F) : Type 0 where
  pub parcels : SameConsumer handed.parcels (parcels_of job)
  pub came : received (parcels_of job) ≡ received handed.parcels ++ known_items handed.parcels
  pub notes : SameProducer handed.notes (notes_of job)
  pub pair : IfSome (slice_get (rings_back b) w) (λ c. IsPair (notes_of job) c)
  pub all : received_at (rings_back b) w ≡ sent (notes_of job)
  pub place : 0 < known_free (notes_of job)
  pub unstopped : list_any is_stop (known_items handed.parcels) ≡ false
  pub same_factory : factory_of job ≡ handed.factory
  pub as_many : listeners_of job ≡ listeners

-- between a and b nothing came of any worker but w, and those that were not in order, and not retired, are so still
pub record KeepsOthers {L : Type 0} (w : ℕ) (a b : Acceptor L) : Type 0 where
  pub rings : (map ring_in (rings_to b) ≡ map ring_in (rings_to a)) × (map ring_out (rings_back b) ≡ map ring_out (rings_back a))
  pub went : map (λ p. sent p) (rings_to b) ≡ map (λ p. sent p) (rings_to a)
  pub others : (v : ℕ) → v ≢ w → received_at (rings_back b) v ≡ received_at (rings_back a) v
  pub off : (v : ℕ) → v ≢ w → in_order (core_of a).order v ≡ false → in_order (core_of b).order v ≡ false
  pub retired : (v : ℕ) → v ≢ w → set.contains (core_of b).retired v ≡ set.contains (core_of a).retired v

-- none is left, with no stop, and nothing waits or is out
pub record IsAlone {L : Type 0} (a : Acceptor L) : Type 0 where
  pub waiting : waiting_of a ≡ None
  pub none_out : sum (core_of a).out ≡ 0
  pub unstopped : (core_of a).stopping ≡ None

-- what the acceptor did in between, whatever listeners there are
abbrev pub Goes : {Li L D : Type 0} → (Li → ℕ) → (Li → Option (List L)) → (Li → Option (List Mark)) → (L → Identity) → (Li → Bool) → (Li → ℕ)
    → (D → Option (List (Entry L))) → (D → ℕ) → (D → ℕ) → Acceptor L → Acceptor L → D → D → Bool → Type 0
Goes {Li = Li} given left rest identity ended faults taken count served a b old new last =
    (listeners : List Li) → (events : List Event) × Acts given left rest identity ended faults taken count served listeners listeners a b old new events last

-- What starts workers started more, and was refused more, only where workers may end by faults. Its count of starts never fell below its last value.
pub record Restarts (may_fault : Type 0) (before now : ℕ × ℕ) : Type 0 where
  pub starts : min before.0 (2 ^ 64 - 1) ≤ now.0
  pub cause : (now ≡ before) ⊎ may_fault
