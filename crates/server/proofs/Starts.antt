-- Workers that are started one after another.
use Rattle.std.proofs.Common.{◌≡◌, ◌≢◌, Result, Err, Option, Some, ◌<◌, ◌+◌, ◌∷◌, ◌++◌, [], ℕ, List, All, length, map, refl, sym, ◌∙◌, ap, arith, subst, sum_by, inl}
use Rattle.std.specs.List.{list_any}
use Rattle.std.proofs.lemmas.List.{length-append, length-map}
use Rattle.std.proofs.lemmas.List.Elements.{All-nil}
use Rattle.std.specs.declared.alloc.Global.{Global}
use Rattle.rtrb.specs.Ring.{IsPair, producer_capacity, received, sent}
use Rattle.rtrb.specs.declared.AnyItems.{AnyItems}
use Rattle.rtrb.specs.declared.consumer.Consumer.{Consumer}
use Rattle.rtrb.specs.declared.producer.Producer.{Producer}
use Rattle.service_core.specs.Counts.{risen}
use Rattle.service_core.specs.Link.{Identity}
use Rattle.service_core.specs.Meaning.{Readiness}
use Rattle.service_core.specs.declared.ended.Ended.{Ended}
use Rattle.server_jobs.specs.Cards.{of_note, of_parcel}
use Rattle.server_jobs.specs.Jobs.{job_of}
use Rattle.server_jobs.specs.Parcels.{is_stop}
use Rattle.server_jobs.specs.declared.line.Line.{Line}
use Rattle.server_jobs.specs.declared.note.Note.{Note}
use Rattle.server_jobs.specs.declared.parcel.Parcel.{Parcel}
use Rattle.server_jobs.specs.declared.running.Running.{Running}
use Rattle.server_acceptor.specs.Rings.{ring_in}
use Rattle.server_run.specs.declared.serve_error.ServeError.{ServeError}
use Rattle.server_run.specs.declared.serve_error.ServeError.TheVariants.{Spawn as SpawnError}
use Rattle.server_run.specs.Creating.{HasMeaningOf}
use Rattle.server.proofs.Rows.{started_more}
use Rattle.server.specs.Failing.{IsFault}
use Rattle.server.specs.Rows.{Row, rows_of}
use Rattle.server.specs.Tales.{IsTale}
use Rattle.server_run.specs.Serving.{MayFault}
use Rattle.server.specs.Starting.{IsStarted, RoseBy}
use Rattle.server.specs.declared.start_fault.StartFault.{StartFault}
use Rattle.server.specs.declared.start_fault.StartFault.TheVariants.{Spawn, Memory}
use Rattle.worker_job.specs.Jobs.{factory_of, listeners_of, notes_of, parcels_of}
use Rattle.worker_job.specs.declared.worker_job.WorkerJob.{WorkerJob}

module _ {F L E I : Type 0} (may_serve : F → ℕ → L → Ended L → Type 0) (may_leave : F → ℕ → L → L → Type 0) (may_ready : F → ℕ → Readiness E → Type 0)
    (may_init : F → ℕ → I → Type 0) (may_make : F → ℕ → Type 0) where
  -- a job that was made of the other ends of two fresh rings
  pub is_started : {O : Type 0} (factory copy : F) (listeners : ℕ) (line : Line L (WorkerJob L F) O) (job : WorkerJob L F) (taken : Consumer (Parcel L) Global AnyItems) (noted : Producer (Note L) Global AnyItems)
      → job_of line.running ≡ job → parcels_of job ≡ taken → notes_of job ≡ noted → factory_of job ≡ copy → listeners_of job ≡ listeners
      → IsPair line.parcels taken → sent line.parcels ≡ [] → received taken ≡ [] → IsPair noted line.notes → sent noted ≡ [] → received line.notes ≡ []
      → 0 < producer_capacity noted → HasMeaningOf may_serve may_leave may_ready may_init may_make factory copy
      → (identity : L → Identity) (workers : ℕ) → IsStarted may_serve may_leave may_ready may_init may_make identity workers factory listeners line
  is_started factory copy listeners line job taken noted is parcels notes made many to_it sent_none its_none from_it its_unsent received_none place means identity workers = record {
    runs = record {
      to_it = subst (λ c. IsPair line.parcels c) (sym inward) to_it;
      from_it = subst (λ p. IsPair p line.notes) (sym outward) from_it;
      place = subst (λ p. 0 < producer_capacity p) (sym outward) place;
      balanced = λ h. ap (sum_by (of_parcel identity h)) unreceived ∙ sym (ap (sum_by (of_note identity h)) unsent);
      told = subst (λ ns. All (IsTale workers (MayFault (may_ready factory) (may_init factory) listeners) (may_serve factory) (may_leave factory) (may_make factory) listeners (received (parcels_of (job_of line.running)))) ns) (sym unsent)
          (All-nil (IsTale workers (MayFault (may_ready factory) (may_init factory) listeners) (may_serve factory) (may_leave factory) (may_make factory) listeners (received (parcels_of (job_of line.running)))));
      unstopped = ap (list_any is_stop) unreceived;
      began = inl unsent;
      means = subst (HasMeaningOf may_serve may_leave may_ready may_init may_make factory) (sym (ap factory_of is ∙ made)) means;
      as_many = ap listeners_of is ∙ many;
    };
    unsent = unsent;
    sent_none = sent_none;
    received_none = received_none;
  }
    where
      inward : parcels_of (job_of line.running) ≡ taken
      inward = ap parcels_of is ∙ parcels

      outward : notes_of (job_of line.running) ≡ noted
      outward = ap notes_of is ∙ notes

      unreceived : received (parcels_of (job_of line.running)) ≡ []
      unreceived = ap (λ c. received c) inward ∙ its_none

      unsent : sent (notes_of (job_of line.running)) ≡ []
      unsent = ap (λ p. sent p) outward ∙ its_unsent

pub record StartsUpTo {L J O : Type 0} (P : Row L J O → Type 0) (first_starts first_refusals : ℕ) (w : ℕ) (ps : List (Producer (Parcel L) Global AnyItems)) (ns : List (Consumer (Note L) Global AnyItems)) (rs : List (Option (Running J O)))
    (starts refusals : ℕ) : Type 0 where
  pub started : All P (rows_of ps ns rs)
  pub as_many : (length ps ≡ w) × (length ns ≡ w) × (length rs ≡ w)
  pub begun : RoseBy w first_starts starts
  pub unrefused : refusals ≡ first_refusals

module _ {L J O : Type 0} (P : Row L J O → Type 0) where
  pub starts_none : (a b : ℕ) (ps : List (Producer (Parcel L) Global AnyItems)) (ns : List (Consumer (Note L) Global AnyItems)) (rs : List (Option (Running J O))) → ps ≡ [] → ns ≡ [] → rs ≡ [] → StartsUpTo P a b 0 ps ns rs a b
  starts_none a b ps ns rs is too three = record {
    started = subst (All P) (sym (ap (λ xs. rows_of xs ns rs) is)) (All-nil P);
    as_many = (ap length is, ap length too, ap length three);
    begun = record { at_least = omega arith; at_most = omega arith };
    unrefused = refl;
  }

  -- one worker more was started
  pub starts_more : (a b w starts refusals now : ℕ) (ps qs : List (Producer (Parcel L) Global AnyItems)) (ns ms : List (Consumer (Note L) Global AnyItems)) (rs ss : List (Option (Running J O))) (row : Row L J O)
      → StartsUpTo P a b w qs ms ss starts refusals → ps ≡ qs ++ row.parcels ∷ [] → ns ≡ ms ++ row.notes ∷ [] → rs ≡ ss ++ row.running ∷ [] → P row → now ≡ risen starts
      → (later : ℕ) → later ≡ refusals → StartsUpTo P a b (w + 1) ps ns rs now later
  starts_more a b w starts refusals now ps qs ns ms rs ss row so_far is too three here rises later same = record {
    started = started_more P ps qs ns ms rs ss row is too three (so_far.as_many.0 ∙ sym so_far.as_many.2) (so_far.as_many.1 ∙ sym so_far.as_many.2) so_far.started here;
    as_many = (
      let m = so_far.as_many.0 in let e = ap length is in omega (arith, length-append qs (row.parcels ∷ [])),
      let m = so_far.as_many.1 in let e = ap length too in omega (arith, length-append ms (row.notes ∷ [])),
      let m = so_far.as_many.2 in let e = ap length three in omega (arith, length-append ss (row.running ∷ [])),
    );
    begun = rose_more w a starts now rises so_far.begun;
    unrefused = same ∙ so_far.unrefused;
  }
    where
      rose_more : (n a b c : ℕ) → c ≡ risen b → RoseBy n a b → RoseBy (n + 1) a c
      rose_more n a b c is rose = record { at_least = let e = rose.at_least in omega arith; at_most = let e = rose.at_most in omega arith }

-- a fault that isn't of the spawner
pub not_spawn : {X : Type 0} (f : StartFault) → Some f ≢ Some Spawn → ◌≢◌ {A = Result X StartFault} (Err f) (Err Spawn)
not_spawn Spawn other is = other refl
not_spawn Memory other is = cc

-- a fault that isn't told as one of the spawner
pub not_told : {X I : Type 0} (f : StartFault) (worker : ℕ) (error : ServeError I) → IsFault f worker error
    → ((w : ℕ) → ◌≡◌ {A = Result X (ServeError I)} (Err error) (Err (SpawnError w)) → ⊥) → Some f ≢ Some Spawn
not_told Spawn worker error is other told = other worker (ap Err is)
not_told Memory worker error is other told = cc

-- as many rings
pub as_many_rings : {T : Type 0} (ps qs : List (Producer T Global AnyItems)) → map ring_in qs ≡ map ring_in ps → length qs ≡ length ps
as_many_rings ps qs same = sym (length-map qs ring_in) ∙ ap length same ∙ length-map ps ring_in
