-- Workers, one after another.
use Rattle.std.proofs.Common.{◌≡◌, ◌∷◌, ◌++◌, [], ℕ, zero, suc, List, length, map, All, None, Option, Some, slice_get, refl, sym, ◌∙◌, ap, arith, subst}
use Rattle.std.specs.Prelude.{⊤}
use Rattle.std.proofs.lemmas.List.{length-append}
use Rattle.std.proofs.lemmas.List.Elements.{All-cons, All-head, All-nil, All-push, All-tail}
use Rattle.std.specs.declared.alloc.Global.{Global}
use Rattle.rtrb.specs.declared.AnyItems.{AnyItems}
use Rattle.rtrb.specs.declared.consumer.Consumer.{Consumer}
use Rattle.rtrb.specs.declared.producer.Producer.{Producer}
use Rattle.service_core.specs.Link.{Identity}
use Rattle.service_core.specs.Meaning.{Readiness}
use Rattle.service_core.specs.declared.ended.Ended.{Ended}
use Rattle.server_acceptor.specs.Rings.{ring_in, ring_out}
use Rattle.server_jobs.specs.Jobs.{job_of}
use Rattle.server_jobs.specs.Joins.{IsLine}
use Rattle.server_jobs.specs.declared.handed.Handed.{Handed}
use Rattle.server_jobs.specs.declared.line.Line.{Line}
use Rattle.server_jobs.specs.declared.note.Note.{Note}
use Rattle.server_jobs.specs.declared.parcel.Parcel.{Parcel}
use Rattle.server_jobs.specs.declared.running.Running.{Running}
use Rattle.worker_job.specs.Jobs.{notes_of, parcels_of}
use Rattle.worker_job.specs.Promise.{HandsOver}
use Rattle.worker_job.specs.declared.departure.Departure.{Departure}
use Rattle.worker_job.specs.declared.worker_job.WorkerJob.{WorkerJob}
use Rattle.server.specs.Joining.{IsJoinable}
use Rattle.server.specs.Rows.{Row, by_job, line_of, row_of, rows_of}
use Rattle.server.specs.Starting.{HasStarted, IsStarted, RunsFor}

module _ {L J O : Type 0} where
  pub rows_push : (ps : List (Producer (Parcel L) Global AnyItems)) (ns : List (Consumer (Note L) Global AnyItems)) (rs : List (Option (Running J O)))
      (p : Producer (Parcel L) Global AnyItems) (n : Consumer (Note L) Global AnyItems) (r : Option (Running J O)) → length ps ≡ length rs → length ns ≡ length rs
      → rows_of (ps ++ p ∷ []) (ns ++ n ∷ []) (rs ++ r ∷ []) ≡ rows_of ps ns rs ++ row_of p n r ∷ []
  rows_push [] [] [] p n r same too = refl
  rows_push [] [] (r' ∷ rs) p n r same too = absurd (omega arith)
  rows_push [] (n' ∷ ns) [] p n r same too = absurd (omega arith)
  rows_push [] (n' ∷ ns) (r' ∷ rs) p n r same too = absurd (omega arith)
  rows_push (p' ∷ ps) [] [] p n r same too = absurd (omega arith)
  rows_push (p' ∷ ps) [] (r' ∷ rs) p n r same too = absurd (omega arith)
  rows_push (p' ∷ ps) (n' ∷ ns) [] p n r same too = absurd (omega arith)
  rows_push (p' ∷ ps) (n' ∷ ns) (r' ∷ rs) p n r same too = ap (λ xs. row_of p' n' r' ∷ xs) (rows_push ps ns rs p n r (omega arith) (omega arith))

  -- the three lists lost their last ones
  pub rows_popped : (ps qs : List (Producer (Parcel L) Global AnyItems)) (ns ms : List (Consumer (Note L) Global AnyItems)) (rs ss : List (Option (Running J O)))
      (p : Producer (Parcel L) Global AnyItems) (n : Consumer (Note L) Global AnyItems) (r : Option (Running J O)) → ps ≡ qs ++ p ∷ [] → ns ≡ ms ++ n ∷ [] → rs ≡ ss ++ r ∷ [] → length ps ≡ length rs → length ns ≡ length rs
      → rows_of ps ns rs ≡ rows_of qs ms ss ++ row_of p n r ∷ []
  rows_popped ps qs ns ms rs ss p n r is too three same many =
      ap (λ xs. rows_of xs ns rs) is ∙ ap (λ xs. rows_of (qs ++ p ∷ []) xs rs) too ∙ ap (λ xs. rows_of (qs ++ p ∷ []) (ms ++ n ∷ []) xs) three
      ∙ rows_push qs ms ss p n r (let a = ap length is in let b = ap length three in omega (arith, length-append qs (p ∷ []), length-append ss (r ∷ [])))
      (let a = ap length too in let b = ap length three in omega (arith, length-append ms (n ∷ []), length-append ss (r ∷ [])))

  -- one worker more
  pub started_more : (P : Row L J O → Type 0) (ps qs : List (Producer (Parcel L) Global AnyItems)) (ns ms : List (Consumer (Note L) Global AnyItems)) (rs ss : List (Option (Running J O)))
      (row : Row L J O) → ps ≡ qs ++ row.parcels ∷ [] → ns ≡ ms ++ row.notes ∷ [] → rs ≡ ss ++ row.running ∷ [] → length qs ≡ length ss → length ms ≡ length ss
      → All P (rows_of qs ms ss) → P row → All P (rows_of ps ns rs)
  started_more P ps qs ns ms rs ss row is too three same many all here =
      subst (All P) (sym (ap (λ xs. rows_of xs ns rs) is ∙ ap (λ xs. rows_of (qs ++ row.parcels ∷ []) xs rs) too ∙ ap (λ xs. rows_of (qs ++ row.parcels ∷ []) (ms ++ row.notes ∷ []) xs) three
      ∙ rows_push qs ms ss row.parcels row.notes row.running same many)) (All-push P (rows_of qs ms ss) row all here)

  pub rows_none : (ps : List (Producer (Parcel L) Global AnyItems)) (ns : List (Consumer (Note L) Global AnyItems)) (rs : List (Option (Running J O))) → rs ≡ [] → length ps ≡ length rs → rows_of ps ns rs ≡ []
  rows_none [] ns rs is same = refl
  rows_none (p ∷ ps) ns rs is same = absurd (let a = ap length is in omega arith)

  -- as many workers as jobs
  pub rows_length : (ps : List (Producer (Parcel L) Global AnyItems)) (ns : List (Consumer (Note L) Global AnyItems)) (rs : List (Option (Running J O))) → length ps ≡ length rs → length ns ≡ length rs
      → length (rows_of ps ns rs) ≡ length rs
  rows_length [] ns rs same too = same
  rows_length (p ∷ ps) [] rs same too = too
  rows_length (p ∷ ps) (n ∷ ns) [] same too = refl
  rows_length (p ∷ ps) (n ∷ ns) (r ∷ rs) same too = ap suc (rows_length ps ns rs (omega arith) (omega arith))

  pub map_parcels : (ps : List (Producer (Parcel L) Global AnyItems)) (ns : List (Consumer (Note L) Global AnyItems)) (rs : List (Option (Running J O))) → length ps ≡ length rs → length ns ≡ length rs
      → ps ≡ map (λ l. l.parcels) (rows_of ps ns rs)
  map_parcels [] ns rs same too = refl
  map_parcels (p ∷ ps) [] rs same too = absurd (omega arith)
  map_parcels (p ∷ ps) (n ∷ ns) [] same too = absurd (omega arith)
  map_parcels (p ∷ ps) (n ∷ ns) (r ∷ rs) same too = ap (λ xs. p ∷ xs) (map_parcels ps ns rs (omega arith) (omega arith))

  pub map_notes : (ps : List (Producer (Parcel L) Global AnyItems)) (ns : List (Consumer (Note L) Global AnyItems)) (rs : List (Option (Running J O))) → length ps ≡ length rs → length ns ≡ length rs
      → ns ≡ map (λ l. l.notes) (rows_of ps ns rs)
  map_notes [] [] rs same too = refl
  map_notes [] (n ∷ ns) rs same too = absurd (omega arith)
  map_notes (p ∷ ps) [] rs same too = absurd (omega arith)
  map_notes (p ∷ ps) (n ∷ ns) [] same too = absurd (omega arith)
  map_notes (p ∷ ps) (n ∷ ns) (r ∷ rs) same too = ap (λ xs. n ∷ xs) (map_notes ps ns rs (omega arith) (omega arith))

-- ---- a fact of each worker, and of each by its place
module _ {L J O : Type 0} (P : Row L J O → Type 0) where
  pub all_rows : (ps : List (Producer (Parcel L) Global AnyItems)) (ns : List (Consumer (Note L) Global AnyItems)) (rs : List (Option (Running J O)))
      → ((w : ℕ) (p : Producer (Parcel L) Global AnyItems) (n : Consumer (Note L) Global AnyItems) (r : Option (Running J O)) → slice_get ps w ≡ Some p → slice_get ns w ≡ Some n → slice_get rs w ≡ Some r → P (row_of p n r))
      → All P (rows_of ps ns rs)
  all_rows [] ns rs each = All-nil P
  all_rows (p ∷ ps) [] rs each = All-nil P
  all_rows (p ∷ ps) (n ∷ ns) [] each = All-nil P
  all_rows (p ∷ ps) (n ∷ ns) (r ∷ rs) each = All-cons P (row_of p n r) (rows_of ps ns rs) (each 0 p n r refl refl refl)
      (all_rows ps ns rs (λ w q m s at too three. each (suc w) q m s at too three))

  pub row_at : (ps : List (Producer (Parcel L) Global AnyItems)) (ns : List (Consumer (Note L) Global AnyItems)) (rs : List (Option (Running J O))) → All P (rows_of ps ns rs)
      → (w : ℕ) (p : Producer (Parcel L) Global AnyItems) (n : Consumer (Note L) Global AnyItems) (r : Option (Running J O)) → slice_get ps w ≡ Some p → slice_get ns w ≡ Some n → slice_get rs w ≡ Some r → P (row_of p n r)
  row_at [] ns rs all w p n r at too three = absurd (cc)
  row_at (q ∷ ps) [] rs all w p n r at too three = absurd (cc)
  row_at (q ∷ ps) (m ∷ ns) [] all w p n r at too three = absurd (cc)
  row_at (q ∷ ps) (m ∷ ns) (s ∷ rs) all zero p n r at too three =
      let i : q ≡ p = cc in let j : m ≡ n = cc in let k : s ≡ r = cc in
      subst (λ x. P (row_of x n r)) i (subst (λ x. P (row_of q x r)) j (subst (λ x. P (row_of q m x)) k (All-head P (row_of q m s) (rows_of ps ns rs) all)))
  row_at (q ∷ ps) (m ∷ ns) (s ∷ rs) all (suc w) p n r at too three = row_at ps ns rs (All-tail P (row_of q m s) (rows_of ps ns rs) all) w p n r at too three

module _ {F L E I : Type 0} (may_serve : F → ℕ → L → Ended L → Type 0) (may_leave : F → ℕ → L → L → Type 0) (may_ready : F → ℕ → Readiness E → Type 0)
    (may_init : F → ℕ → I → Type 0) (may_make : F → ℕ → Type 0) (identity : L → Identity) (workers : ℕ) (factory : F) (listeners : ℕ) where
  module _ {O : Type 0} where
    -- the same rings, whatever went over them
    pub runs_kept : (p q : Producer (Parcel L) Global AnyItems) (n m : Consumer (Note L) Global AnyItems) (r : Running (WorkerJob L F) O) → ring_in q ≡ ring_in p → ring_out m ≡ ring_out n
        → RunsFor may_serve may_leave may_ready may_init may_make identity workers factory listeners (line_of p n r) → RunsFor may_serve may_leave may_ready may_init may_make identity workers factory listeners (line_of q m r)
    runs_kept p q n m r ins outs runs = record {
      to_it = (runs.to_it.0 ∙ sym (ap (λ x. x.0) ins), runs.to_it.1 ∙ sym (ap (λ x. x.1.0) ins), runs.to_it.2 ∙ sym (ap (λ x. x.1.1.0) ins), runs.to_it.3 ∙ sym (ap (λ x. x.1.1.1) ins));
      from_it = (ap (λ x. x.0) outs ∙ runs.from_it.0, ap (λ x. x.1.0) outs ∙ runs.from_it.1, ap (λ x. x.1.1.0) outs ∙ runs.from_it.2, ap (λ x. x.1.1.1) outs ∙ runs.from_it.3);
      place = runs.place;
      balanced = runs.balanced;
      told = runs.told;
      unstopped = runs.unstopped;
      began = runs.began;
      means = runs.means;
      as_many = runs.as_many;
    }

  -- a worker's job that runs for them can be joined
  pub line_joins : (line : Line L (WorkerJob L F) (Handed L F (Departure E I))) → RunsFor may_serve may_leave may_ready may_init may_make identity workers factory listeners line
      → IsLine identity (λ job out. HandsOver identity may_serve may_leave may_ready may_init may_make job out) (λ all. all) line
  line_joins line run = record {
    inward = parcels_of (job_of line.running);
    outward = notes_of (job_of line.running);
    to_it = run.to_it;
    from_it = run.from_it;
    balanced = run.balanced;
    accounts = λ out promised. promised.accounts;
  }

-- the same at each place
pub map_at : {X Y : Type 0} (f : X → Y) (xs zs : List X) (w : ℕ) (z : X) → map f zs ≡ map f xs → slice_get zs w ≡ Some z → (x : X) × (slice_get xs w ≡ Some x) × (f z ≡ f x)
map_at f [] [] w z same at = absurd (cc)
map_at f [] (y ∷ zs) w z same at = absurd (cc)
map_at f (x ∷ xs) [] w z same at = absurd (cc)
map_at f (x ∷ xs) (y ∷ zs) zero z same at = let i : y ≡ z = cc in let j : f y ≡ f x = cc in (x, refl, ap f (sym i) ∙ j)
map_at f (x ∷ xs) (y ∷ zs) (suc w) z same at = let j : map f zs ≡ map f xs = cc in map_at f xs zs w z j at

-- workers that were just started can be joined
module _ {F L E I : Type 0} (may_serve : F → ℕ → L → Ended L → Type 0) (may_leave : F → ℕ → L → L → Type 0) (may_ready : F → ℕ → Readiness E → Type 0)
    (may_init : F → ℕ → I → Type 0) (may_make : F → ℕ → Type 0) (identity : L → Identity) (workers : ℕ) (factory : F) (listeners : ℕ) where
  join_started : (p q : Producer (Parcel L) Global AnyItems) (n m : Consumer (Note L) Global AnyItems) (r : Option (Running (WorkerJob L F) (Handed L F (Departure E I)))) → ring_in q ≡ ring_in p → ring_out m ≡ ring_out n
      → by_job (IsStarted may_serve may_leave may_ready may_init may_make identity workers factory listeners) (λ p n. ⊥) p n r
      → by_job (IsLine identity {D = Departure E I} (λ job out. HandsOver identity may_serve may_leave may_ready may_init may_make job out) (λ all. all)) (λ p n. ⊤) q m r
  join_started p q n m None ins outs started = tt
  join_started p q n m (Some r) ins outs started = line_joins may_serve may_leave may_ready may_init may_make identity workers factory listeners (line_of q m r)
      (runs_kept may_serve may_leave may_ready may_init may_make identity workers factory listeners p q n m r ins outs started.runs)

  pub started_join : (ps qs : List (Producer (Parcel L) Global AnyItems)) (ns ms : List (Consumer (Note L) Global AnyItems)) (rs : List (Option (Running (WorkerJob L F) (Handed L F (Departure E I)))))
      → map ring_in qs ≡ map ring_in ps → map ring_out ms ≡ map ring_out ns → All (HasStarted may_serve may_leave may_ready may_init may_make identity workers factory listeners) (rows_of ps ns rs)
      → All (IsJoinable {D = Departure E I} identity (λ job out. HandsOver identity may_serve may_leave may_ready may_init may_make job out) (λ all. all)) (rows_of qs ms rs)
  started_join ps qs ns ms rs ins outs started = all_rows (IsJoinable {D = Departure E I} identity (λ job out. HandsOver identity may_serve may_leave may_ready may_init may_make job out) (λ all. all)) qs ms rs
      (λ w q m r at_q at_m at_r.
      let p = map_at ring_in ps qs w q ins at_q in
      let n = map_at ring_out ns ms w m outs at_m in
      join_started p.0 q n.0 m r p.2 n.2 (row_at (HasStarted may_serve may_leave may_ready may_init may_make identity workers factory listeners) ps ns rs started w p.0 n.0 r p.1 n.1 at_r))
