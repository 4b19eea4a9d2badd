-- A worker that was joined while the server accepts, and left the order.
use Rattle.std.specs.Prelude.{◌≡◌, ◌⊎◌, ◌++◌, ℕ, false, List, None, Option, Some, IfSome, slice_get, slice_set}
use Rattle.std.specs.declared.alloc.Global.{Global}
use Rattle.rtrb.specs.Ring.{ConsumerLooked, IsPair, ProducerLooked, known_items, received, sent}
use Rattle.rtrb.specs.declared.AnyItems.{AnyItems}
use Rattle.rtrb.specs.declared.consumer.Consumer.{Consumer}
use Rattle.rtrb.specs.declared.producer.Producer.{Producer}
use Rattle.service_core.specs.Counts.{risen}
use Rattle.service_core.specs.Link.{Identity}
use Rattle.service_core.specs.Meaning.{Readiness}
use Rattle.service_core.specs.declared.ended.Ended.{Ended}
use Rattle.server_acceptor.specs.Accepting.{received_at}
use Rattle.server_acceptor.specs.Acceptors.{core_of, notes_of as rings_back, parcels_of as rings_to, waiting_of}
use Rattle.server_acceptor.specs.Parting.{LeavesRest}
use Rattle.server_acceptor.specs.Sending.{sent_to}
use Rattle.server_acceptor.specs.declared.acceptor.Acceptor.{Acceptor}
use Rattle.server_core.specs.Core.{in_order}
use Rattle.server_jobs.specs.Jobs.{job_of}
use Rattle.server_jobs.specs.declared.handed.Handed.{Handed}
use Rattle.server_jobs.specs.declared.note.Note.{Note}
use Rattle.server_jobs.specs.declared.parcel.Parcel.{Parcel}
use Rattle.server_jobs.specs.declared.running.Running.{Running}
use Rattle.server.specs.Replacing.{KeepsOthers}
use Rattle.worker_job.specs.Jobs.{notes_of, parcels_of}
use Rattle.worker_job.specs.Promise.{HandsOver}
use Rattle.worker_job.specs.declared.departure.Departure.{Departure}
use Rattle.worker_job.specs.declared.worker_job.WorkerJob.{WorkerJob}

-- the job that runs at w has the other ends of its rings
abbrev pub RunsOver : {F L O : Type 0} → Acceptor L → ℕ → List (Option (Running (WorkerJob L F) O)) → Type 0
RunsOver {L = L} a w rs = (p : Producer (Parcel L) Global AnyItems) (n : Consumer (Note L) Global AnyItems) (r : _)
    → slice_get (rings_to a) w ≡ Some p → slice_get (rings_back a) w ≡ Some n → slice_get rs w ≡ Some (Some r)
    → IsPair p (parcels_of (job_of r)) × IsPair (notes_of (job_of r)) n

module _ {F L E I : Type 0} (may_serve : F → ℕ → L → Ended L → Type 0) (may_leave : F → ℕ → L → L → Type 0) (may_ready : F → ℕ → Readiness E → Type 0)
    (may_init : F → ℕ → I → Type 0) (may_make : F → ℕ → Type 0) (identity : L → Identity) where
  -- From a to b the job at w was joined, which handed this over, and nothing else changed but that w left the order.
  pub record IsParted (a b : Acceptor L) (w : ℕ) (rs ss : List (Option (Running (WorkerJob L F) (Handed L F (Departure E I))))) (handed : Handed L F (Departure E I)) : Type 0 where
    -- the job, and that none runs there now
    pub ended : Running (WorkerJob L F) (Handed L F (Departure E I))
    pub was : slice_get rs w ≡ Some (Some ended)
    pub vacant : ss ≡ slice_set rs w None
    -- what it promised to hand over, of which the rings were looked at since
    pub out : Handed L F (Departure E I)
    pub promised : HandsOver identity may_serve may_leave may_ready may_init may_make (job_of ended) out
    pub inward : ConsumerLooked out.parcels handed.parcels
    pub outward : ProducerLooked out.notes handed.notes
    pub same : (handed.factory ≡ out.factory) × (handed.owed ≡ out.owed) × (handed.rest ≡ out.rest) × (handed.departure ≡ out.departure)
    -- all that went over its rings was taken, or is known to be there
    pub to_it : received handed.parcels ++ known_items handed.parcels ≡ sent_to (rings_to b) w
    pub from_it : IfSome (slice_get (rings_back b) w) (λ c. received c ++ known_items c ≡ sent handed.notes)
    pub pair_to : IfSome (slice_get (rings_to b) w) (λ p. IsPair p handed.parcels)
    pub pair_from : IfSome (slice_get (rings_back b) w) (λ c. IsPair handed.notes c)
    -- what the acceptor has of it and of the others
    pub came : received_at (rings_back b) w ≡ received_at (rings_back a) w
    pub off : in_order (core_of b).order w ≡ false
    pub out_same : (core_of b).out ≡ (core_of a).out
    pub retired : (core_of b).retired ≡ (core_of a).retired
    pub waits : waiting_of b ≡ waiting_of a
    pub keeps : KeepsOthers w a b
    pub rest : LeavesRest a b

-- none was started in a worker's place, where starts and refusals were counted so: there was no job for it, or it was refused
abbrev pub StartsNone : {J : Type 0} → Option J → ℕ × ℕ → ℕ × ℕ → Type 0
StartsNone job before now = ((job ≡ None) × (now ≡ before)) ⊎ ((now.0 ≡ before.0) × (now.1 ≡ risen before.1))
