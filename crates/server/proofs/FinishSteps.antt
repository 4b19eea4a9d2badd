-- What a run comes to with workers that were started.
use Rattle.std.proofs.Common.{◌≡◌, ◌⊎◌, ◌<◌, ◌^◌, ◌++◌, ◌∷◌, [], zero, suc, ℕ, ◌+◌, ◌*◌, ◌≤◌, Bool, true, false, List, drop, length, map, replicate, All, Contains, Option, Some, None, IfSome, slice_get, slice_index_or, sum_by, refl, sym, ◌∙◌, ap, arith, subst, inl, inr}
use Rattle.std.specs.Prelude.{⊤, count_by, is_some, sum}
use Rattle.std.specs.Option.{option_map, option_map_or}
use Rattle.std.proofs.lemmas.Bool.Decides.{nat_tests}
use Rattle.std.proofs.lemmas.List.{append-nil, length-map, length-replicate}
use Rattle.std.proofs.lemmas.List.Sums.{sum_by-cons}
use Rattle.std.proofs.lemmas.List.Elements.{All-contains, All-head, All-map, All-tail, All-weaker}
use Rattle.std.proofs.lemmas.Option.{get_or_from_slice_get, slice_get_within}
use Rattle.std.specs.declared.alloc.Global.{Global}
use Rattle.rtrb.specs.declared.AnyItems.{AnyItems}
use Rattle.rtrb.specs.declared.consumer.Consumer.{Consumer}
use Rattle.rtrb.specs.declared.producer.Producer.{Producer}
use Rattle.rtrb.specs.Ring.{received, sent}
use Rattle.service_core.specs.Link.{Identity}
use Rattle.service_core.specs.Meaning.{Readiness}
use Rattle.service_core.specs.declared.ended.Ended.{Ended}
use Rattle.server_run.specs.Creating.{IsStartup}
use Rattle.server_run.specs.Delivery.{left_at, once_below, rise}
use Rattle.server_run.specs.Done.{Adds, served_count}
use Rattle.server_run.specs.Outcome.{is_stopped}
use Rattle.server_run.specs.Serving.{HasCause, IsLostBy, MayFault, Untouched}
use Rattle.server_run.specs.declared.outcome.Outcome.{Outcome}
use Rattle.server_run.specs.declared.outcome.Outcome.TheVariants as outcome
use Rattle.server_run.specs.declared.entry.Entry.{Entry}
use Rattle.server_run.specs.Listener.{Mark}
use Rattle.server_run.specs.Report.{Tells, IsTold as TellsOf, is_stop}
use Rattle.server_run.specs.declared.report.Report.{Report}
use Rattle.server_run.specs.declared.report.End.{End}
use Rattle.server_run.specs.declared.report.End.TheVariants.{Drained, Stopped, NoWorkers, Memory}
use Rattle.server_run.specs.declared.report.ListenerState.TheVariants.{Faulted}
use Rattle.server_run.specs.declared.serve_error.ServeError.{ServeError}
use Rattle.server_jobs.specs.Cards.{Card, of_entry, of_note, of_parcel}
use Rattle.server_jobs.specs.Jobs.{job_of}
use Rattle.server_jobs.specs.Joins.{IsLine}
use Rattle.server_jobs.specs.declared.handed.Handed.{Handed}
use Rattle.server_jobs.specs.declared.line.Line.{Line}
use Rattle.server_jobs.specs.declared.note.Note.{Note}
use Rattle.server_jobs.specs.declared.note.Note.TheVariants.{Ready}
use Rattle.server_jobs.specs.declared.parcel.Parcel.{Parcel}
use Rattle.server_jobs.specs.declared.running.Running.{Running}
use Rattle.server_jobs.specs.declared.waiting.Waiting.{Waiting}
use Rattle.server_worker.specs.Stops.{is_forced}
use Rattle.server_acceptor.proofs.NoteSteps.{adds_trans}
use Rattle.server_acceptor.specs.Accepting.{IsNoted}
use Rattle.server_acceptor.specs.Acceptors.{all_ready, core_of, notes_of, out_of, parcels_of, ready_of, retry_limit_of, serial_of, waiting_of}
use Rattle.server_acceptor.specs.Beginning.{IsNew}
use Rattle.server_acceptor.specs.Carrying.{Carries, IsLetGo, came_back, each, has_place, in_waiting, let_gone, put}
use Rattle.server_acceptor.specs.Notes.{count_back}
use Rattle.server_acceptor.specs.Rings.{ring_in, ring_out}
use Rattle.server_acceptor.specs.Sending.{IsStopped}
use Rattle.server_jobs.specs.Parcels.{is_stop as is_parcel_stop}
use Rattle.server_acceptor.specs.States.{IsStateOf}
use Rattle.server_core.specs.Core.{Core}
use Rattle.server_acceptor.specs.declared.acceptor.Acceptor.{Acceptor}
use Rattle.worker_job.specs.Jobs.{factory_of, listeners_of}
use Rattle.worker_job.specs.Promise.{HandsOver}
use Rattle.worker_job.specs.declared.departure.Departure.{Departure}
use Rattle.worker_job.specs.declared.departure.Departure.TheVariants.{Unstarted as UnstartedJob, Faulted as FaultedJob}
use Rattle.worker_job.specs.declared.worker_job.WorkerJob.{WorkerJob}
use Rattle.server.specs.Accepting.{Accepts, Ends, ends_alone}
use Rattle.server.specs.Failing.{IsErrorOf}
use Rattle.server.specs.Joining.{IsJoinable, IsUnstarted}
use Rattle.server.specs.Replacing.{Crew, IsRetired, Runs}
use Rattle.server.specs.Returning.{BringBack, ReturnsBy, many_back, many_put}
use Rattle.server.specs.Stopping.{InTime, IsForcedInTime, IsUntold, ServesInTime}
use Rattle.server.specs.Rows.{ByJob, Row, by_job, line_of, row_of, rows_of}
use Rattle.server.specs.Starting.{HasStarted, IsStarted, RunsFor}
use Rattle.server.specs.Tales.{IsFrom, IsLostHere, IsTale}
use Rattle.server.specs.declared.unstarted.Unstarted.{Unstarted}
use Rattle.server.proofs.CoreSteps.{no_some}
use Rattle.server.proofs.Delivering.{all_from, delivers, ones}
use Rattle.server.proofs.ForceSteps.{forced_on_line}
use Rattle.server.proofs.CrewSteps.{marked}
use Rattle.server.proofs.LineSteps.{rows_fewer, rows_out, sum_map}
use Rattle.server.proofs.ReturnSteps.{none_by, parcel_none}
use Rattle.server.proofs.RowSteps.{IsStill, IsWell, from_rows, told_rows, weighs}
use Rattle.server.proofs.Rows.{all_rows, line_joins, map_at, map_notes, map_parcels, rows_length, runs_kept}
use Rattle.server.proofs.StartSteps.{carries_start, no_drop}
use Rattle.server.proofs.TellSteps.{none_ended, tells_all, told_exactly}
use Rattle.server_acceptor.proofs.Failing.{has_failed}

-- ---- nothing came
at_of_none : {X : Type 0} (f : X → ℕ) (xs : List X) (w : ℕ) → sum_by f xs ≡ 0 → option_map_or f (slice_get xs w) 0 ≡ 0
at_of_none f [] w nothing = refl
at_of_none f (x ∷ xs) zero nothing = omega (arith, sum_by-cons f x xs, nothing)
at_of_none f (x ∷ xs) (suc w) nothing = at_of_none f xs w (omega (arith, sum_by-cons f x xs, nothing))

none_of_at : {X : Type 0} (f : X → ℕ) (xs : List X) → ((w : ℕ) → option_map_or f (slice_get xs w) 0 ≡ 0) → sum_by f xs ≡ 0
none_of_at f [] nothing = refl
none_of_at f (x ∷ xs) nothing = omega (arith, sum_by-cons f x xs, nothing zero, none_of_at f xs (λ w. nothing (suc w)))

none_below : (n : ℕ) → once_below n 0 ≡ 0 → n ≡ 0
none_below n nothing = grind (arith, nat_tests)

no_length : {X : Type 0} (xs : List X) → length xs ≡ 0 → xs ≡ []
no_length [] nothing = refl
no_length (x ∷ xs) nothing = absurd (omega arith)

added_none : {X : Type 0} (o : Option (List X)) → option_map (λ before. before ++ []) o ≡ o
added_none None = refl
added_none (Some xs) = ap Some (append-nil xs)

waits_none : {L : Type 0} (identity : L → Identity) (h : Card → ℕ) (o : Option (Waiting L)) → in_waiting identity (λ c. 1) o ≡ 0 → in_waiting identity h o ≡ 0
waits_none identity h None nothing = refl
waits_none identity h (Some w) nothing = absurd (omega (arith, nothing))

module _ {Li L D : Type 0} (given : Li → ℕ) (left : Li → Option (List L)) (identity : L → Identity) (taken : D → Option (List (Entry L))) (count served : D → ℕ)
    (before after : List Li) (a : Acceptor L) (old new : D) (more : List (Entry L)) (none_left : Bool) (carries : Carries given left identity none_left before after a more) (adds : Adds taken count served old new more)
    (small : (count old < 2 ^ 64) × (served old < 2 ^ 64)) (nothing : serial_of a ≡ 0) where
  puts_none : put identity (λ c. 1) a.parcels.items ≡ 0
  puts_none = omega (arith, carries.count, nothing)

  none_gone : carries.gone ≡ []
  none_gone = no_length carries.gone (let count : let_gone identity (λ c. 1) carries.gone ≡ sum_by (λ (e : Entry L). 1) carries.gone = refl in omega (arith, ones carries.gone, count, carries.count, nothing))

  weighs_none : (h : Card → ℕ) → (put identity h a.parcels.items + in_waiting identity h a.waiting) + let_gone identity h carries.gone ≡ 0
  weighs_none h =
      let g = ap (let_gone identity h) none_gone in
      let p : put identity h a.parcels.items ≡ 0 =
      none_by (λ p. sum_by (of_parcel identity (λ c. 1)) (sent p)) (λ p. sum_by (of_parcel identity h) (sent p)) (λ p. none_by (of_parcel identity (λ c. 1)) (of_parcel identity h) (parcel_none identity h) (sent p)) a.parcels.items puts_none in
      let w : in_waiting identity h a.waiting ≡ 0 = waits_none identity h a.waiting (omega (arith, carries.count, nothing)) in
      omega (arith, p, w, g)

  rises_none : (t : ℕ) → rise given before after t ≡ 0
  rises_none t = none_below (rise given before after t) (sym (carries.places t 0) ∙ weighs_none (each (has_place t 0)))

  backs_none : came_back identity (λ c. 1) a.notes.items ≡ 0
  backs_none = none_of_at (λ c. sum_by (of_note identity (λ c. 1)) (received c)) a.notes.items
      (λ w. let e : count_back identity a.notes.items w ≡ 0 = omega (arith, carries.out w, at_of_none (λ p. sum_by (of_parcel identity (λ c. 1)) (sent p)) a.parcels.items w puts_none) in e)

  no_more : more ≡ []
  no_more =
      let back : came_back identity (λ c. 1) a.notes.items + let_gone identity (λ c. 1) carries.gone ≡ sum_by (λ (e : Entry L). 1) more = carries.back (λ c. 1) in
      let g = ap (let_gone identity (λ c. 1)) none_gone in
      no_length more (omega (arith, ones more, back, backs_none, g))

  pub untouched : Untouched given left taken count served before after old new
  untouched = record {
    given_same = λ t. let none = rises_none t in let rises = carries.rises t in omega (arith, none, rises);
    left_same = λ t. carries.remains t ∙ subst (λ n. option_map (drop n) (left_at left before t) ≡ left_at left before t) (sym (rises_none t)) (sym (no_drop (left_at left before t)));
    keeps = record {
      list = adds.list ∙ ap (λ es. option_map (λ xs. xs ++ es) (taken old)) no_more ∙ added_none (taken old);
      number = let n = ap length no_more in omega (arith, adds.number, n, small.0);
      number_served = let n = ap served_count no_more in omega (arith, adds.number_served, n, small.1);
    };
  }

-- no stop was taken up at the start, and none went out
none_told : {L : Type 0} (ps : List (Producer (Parcel L) Global AnyItems)) → All (λ p. sent p ≡ []) ps → (w : ℕ) → IsStopped ps w → ⊥
none_told [] unsent w is = omega (arith, is)
none_told {L = L} (p ∷ ps) unsent zero is =
    let some : 0 < count_by (is_parcel_stop {L = L}) [] = subst (λ (items : List (Parcel L)). 0 < count_by (is_parcel_stop {L = L}) items) (All-head (λ p. sent p ≡ []) p ps unsent) is in omega (arith, some)
none_told (p ∷ ps) unsent (suc w) is = none_told ps (All-tail (λ p. sent p ≡ []) p ps unsent) w is

-- what was just started, by rows
module _ {L F E I : Type 0} (may_serve : F → ℕ → L → Ended L → Type 0) (may_leave : F → ℕ → L → L → Type 0) (may_ready : F → ℕ → Readiness E → Type 0) (may_init : F → ℕ → I → Type 0) (may_make : F → ℕ → Type 0)
    (identity : L → Identity) (workers : ℕ) (factory : F) (listeners : ℕ) (ps : List (Producer (Parcel L) Global AnyItems)) (ns : List (Consumer (Note L) Global AnyItems)) (rs : List (Option (Running (WorkerJob L F) (Handed L F (Departure E I)))))
    (as_many : (length ps ≡ length rs) × (length ns ≡ length rs))
    (started : All (HasStarted may_serve may_leave may_ready may_init may_make identity workers factory listeners) (rows_of ps ns rs)) where
  none_in : (row : Row L (WorkerJob L F) (Handed L F (Departure E I))) → HasStarted may_serve may_leave may_ready may_init may_make identity workers factory listeners row → (sent row.parcels ≡ []) × (received row.notes ≡ [])
  none_in row is = by_running row.parcels row.notes row.running is
    where
      by_running : (p : Producer (Parcel L) Global AnyItems) (n : Consumer (Note L) Global AnyItems) (r : Option (Running (WorkerJob L F) (Handed L F (Departure E I))))
          → by_job (IsStarted may_serve may_leave may_ready may_init may_make identity workers factory listeners) (λ p n. ⊥) p n r → (sent p ≡ []) × (received n ≡ [])
      by_running p n None is = absurd is
      by_running p n (Some r) is = (is.sent_none, is.received_none)

  pub none_sent_yet : All (λ p. sent p ≡ []) ps
  none_sent_yet = subst (All (λ p. sent p ≡ [])) (sym (map_parcels ps ns rs as_many.0 as_many.1))
      (All-map (λ p. sent p ≡ []) (λ l. l.parcels) (rows_of ps ns rs) (λ i d inside. (none_in _ (started i d inside)).0))

  pub none_received_yet : All (λ c. received c ≡ []) ns
  none_received_yet = subst (All (λ c. received c ≡ [])) (sym (map_notes ps ns rs as_many.0 as_many.1))
      (All-map (λ c. received c ≡ []) (λ l. l.notes) (rows_of ps ns rs) (λ i d inside. (none_in _ (started i d inside)).1))

pub untold_start : {L F E I : Type 0} (may_serve : F → ℕ → L → Ended L → Type 0) (may_leave : F → ℕ → L → L → Type 0) (may_ready : F → ℕ → Readiness E → Type 0) (may_init : F → ℕ → I → Type 0) (may_make : F → ℕ → Type 0)
    (identity : L → Identity) (workers : ℕ) (factory : F) (listeners limit retry_limit timeout : ℕ) (a : Acceptor L) (rs : List (Option (Running (WorkerJob L F) (Handed L F (Departure E I)))))
    → IsNew a (parcels_of a) (notes_of a) listeners limit retry_limit timeout → (length (parcels_of a) ≡ length rs) × (length (notes_of a) ≡ length rs)
    → All (HasStarted may_serve may_leave may_ready may_init may_make identity workers factory listeners) (rows_of (parcels_of a) (notes_of a) rs) → IsUntold a
untold_start may_serve may_leave may_ready may_init may_make identity workers factory listeners limit retry_limit timeout a rs fresh as_many started = record {
  no_stop = fresh.stop;
  unpaused = ap (λ (s : Core). s.paused) fresh.core;
  unstopped = ap (λ (s : Core). s.stopping) fresh.core;
  none_sent = none_told (parcels_of a) (none_sent_yet may_serve may_leave may_ready may_init may_make identity workers factory listeners (parcels_of a) (notes_of a) rs as_many started);
}

-- what has come back by a note is not stopped where no stop came, and nothing comes back by joins
none_stopped : {L : Type 0} (a : Acceptor L) (entries back : List (Entry L)) → (core_of a).stopping ≡ None → All (λ e. is_stopped e.outcome ≡ true → is_some (core_of a).stopping ≡ true) entries
    → length back ≡ 0 → All (λ e. is_stopped e.outcome ≡ true → ⊥) (entries ++ back)
none_stopped a entries [] none founded few = subst (All (λ e. is_stopped e.outcome ≡ true → ⊥)) (sym (append-nil entries))
    (λ i d inside stopped. no_some (core_of a).stopping none (founded i d inside stopped))
none_stopped a entries (e ∷ back) none founded few = absurd (omega (arith, few))

-- ---- a run
pub none_of : {X : Type 0} (o : Option X) → ((x : X) → o ≡ Some x → ⊥) → o ≡ None
none_of None other = refl
none_of (Some x) other = absurd (other x refl)

finished : {L : Type 0} (may_fault : Type 0) (a : Acceptor L) (end : End) → Ends may_fault a end → waiting_of a ≡ None
finished may_fault a Drained f = f.1
finished may_fault a (Stopped graceful) f = f.1
finished may_fault a NoWorkers f = f.0
finished may_fault a Memory f = f.1

-- no mark is set at the start
pub unmarked : (n w : ℕ) → slice_index_or (replicate n false) w false ≡ true → ⊥
unmarked zero w is = cc
unmarked (suc n) zero is = cc
unmarked (suc n) (suc w) is = unmarked n w is

-- the first worker, with what is known of its ring back
first_row : {L J O : Type 0} (P : Row L J O → Type 0) (Q : Consumer (Note L) Global AnyItems → Type 0) (ps : List (Producer (Parcel L) Global AnyItems)) (ns : List (Consumer (Note L) Global AnyItems)) (rs : List (Option (Running J O)))
    → 0 < length rs → length ps ≡ length rs → length ns ≡ length rs → All P (rows_of ps ns rs) → IfSome (slice_get ns 0) Q → (row : Row L J O) × P row × Q row.notes
first_row P Q ps ns [] some same too all has = absurd (omega (arith, some))
first_row P Q [] ns (r ∷ rs) some same too all has = absurd (omega (arith, same))
first_row P Q (p ∷ ps) [] (r ∷ rs) some same too all has = absurd (omega (arith, too))
first_row P Q (p ∷ ps) (n ∷ ns) (r ∷ rs) some same too all has =
    (record { parcels = p; notes = n; running = r }, All-head P (record { parcels = p; notes = n; running = r }) (rows_of ps ns rs) all, has)

module _ {Li L D F E I : Type 0} (given : Li → ℕ) (left : Li → Option (List L)) (rest : Li → Option (List Mark)) (identity : L → Identity) (ended : Li → Bool) (faults : Li → ℕ)
    (taken : D → Option (List (Entry L))) (count served : D → ℕ)
    (may_serve : F → ℕ → L → Ended L → Type 0) (may_leave : F → ℕ → L → L → Type 0) (may_ready : F → ℕ → Readiness E → Type 0) (may_init : F → ℕ → I → Type 0) (may_make : F → ℕ → Type 0)
    (factory : F) (listeners limit retry_limit timeout : ℕ) (before after : List Li) (a b : Acceptor L) (first rs : List (Option (Running (WorkerJob L F) (Handed L F (Departure E I))))) (old new : D)
    (fresh : IsNew a (parcels_of a) (notes_of a) listeners limit retry_limit timeout)
    (as_many : (length (parcels_of a) ≡ length first) × (length (notes_of a) ≡ length first))
    (started : All (HasStarted may_serve may_leave may_ready may_init may_make identity (length first) factory listeners) (rows_of (parcels_of a) (notes_of a) first))
    (last : Bool) (accepts : Accepts given left rest identity ended faults taken count served before after a b old new last)
    (crew : Crew may_serve may_leave may_ready may_init may_make identity factory listeners b rs) (same_number : length rs ≡ length first) where
  abbrev Fault : Type 0
  Fault = MayFault (may_ready factory) (may_init factory) listeners

  abbrev workers : ℕ
  workers = length rs

  -- nothing is carried at the start
  pub carries_first : (none_left : Bool) → Carries given left identity none_left before before a []
  carries_first none_left = carries_start given left identity none_left before a (parcels_of a) (notes_of a) listeners limit retry_limit timeout fresh
      (none_sent_yet may_serve may_leave may_ready may_init may_make identity (length first) factory listeners (parcels_of a) (notes_of a) first as_many started)
      (none_received_yet may_serve may_leave may_ready may_init may_make identity (length first) factory listeners (parcels_of a) (notes_of a) first as_many started)

  -- what the acceptor took and what it handed on
  carried : Carries given left identity last before after b accepts.acts.passes.more
  carried = accepts.acts.passes.carries last (λ is. is) before [] (carries_first last)

  -- nothing was accepted where no service stood in time
  pub refuses : (count old < 2 ^ 64) × (served old < 2 ^ 64) → (all_ready b ≡ false) ⊎ (serial_of b ≡ 0) → Untouched given left taken count served before after old new
  refuses small (inl lacks) = accepts.acts.awaits.early lacks
  refuses small (inr nothing) = untouched given left identity taken count served before after b old new accepts.acts.passes.more last carried accepts.acts.passes.adds small nothing

  -- the same rings, whatever went over them
  module _ (qs : List (Producer (Parcel L) Global AnyItems)) (ms : List (Consumer (Note L) Global AnyItems))
      (ins : map ring_in qs ≡ map ring_in (parcels_of b)) (outs : map ring_out ms ≡ map ring_out (notes_of b)) where
    pub many_after : (length qs ≡ length rs) × (length ms ≡ length rs)
    many_after = (
      (let e = ap length ins in omega (arith, e, length-map qs ring_in, length-map (parcels_of b) ring_in, crew.as_many.0)),
      (let e = ap length outs in omega (arith, e, length-map ms ring_out, length-map (notes_of b) ring_out, crew.as_many.1)),
    )

    abbrev RunsThere : Line L (WorkerJob L F) (Handed L F (Departure E I)) → Type 0
    RunsThere line = RunsFor may_serve may_leave may_ready may_init may_make identity workers factory listeners line

    runs_there : (w : ℕ) (q p : Producer (Parcel L) Global AnyItems) (m n : Consumer (Note L) Global AnyItems) (r : Option (Running (WorkerJob L F) (Handed L F (Departure E I)))) → ring_in q ≡ ring_in p → ring_out m ≡ ring_out n
        → by_job (Runs may_serve may_leave may_ready may_init may_make identity factory listeners workers w (core_of b)) (IsRetired {E = E} {I = I} may_serve may_leave may_ready may_init may_make identity factory listeners workers w (core_of b)) p n r
        → by_job RunsThere (λ p n. ⊤) q m r
    runs_there w q p m n None same too is = tt
    runs_there w q p m n (Some r) same too is = runs_kept may_serve may_leave may_ready may_init may_make identity workers factory listeners p q n m r same too is.runs

    runs_after : All (ByJob RunsThere (λ p n. ⊤)) (rows_of qs ms rs)
    runs_after = all_rows (ByJob RunsThere (λ p n. ⊤)) qs ms rs (λ w q m r at_q at_m at_r.
        let p = map_at ring_in (parcels_of b) qs w q ins at_q in
        let n = map_at ring_out (notes_of b) ms w m outs at_m in
        runs_there w q p.0 m n.0 r p.2 n.2 (crew.each w p.0 n.0 r p.1 n.1 at_r))

    joins_one : (row : Row L (WorkerJob L F) (Handed L F (Departure E I))) → ByJob RunsThere (λ p n. ⊤) row → IsJoinable {D = Departure E I} identity (λ job out. HandsOver identity may_serve may_leave may_ready may_init may_make job out) (λ all. all) row
    joins_one row is = by_running row.parcels row.notes row.running is
      where
        by_running : (p : Producer (Parcel L) Global AnyItems) (n : Consumer (Note L) Global AnyItems) (r : Option (Running (WorkerJob L F) (Handed L F (Departure E I)))) → by_job RunsThere (λ p n. ⊤) p n r
            → by_job (IsLine identity {D = Departure E I} (λ job out. HandsOver identity may_serve may_leave may_ready may_init may_make job out) (λ all. all)) (λ p n. ⊤) p n r
        by_running p n None is = tt
        by_running p n (Some r) is = line_joins may_serve may_leave may_ready may_init may_make identity workers factory listeners (line_of p n r) is

    pub joins_after : All (IsJoinable {D = Departure E I} identity (λ job out. HandsOver identity may_serve may_leave may_ready may_init may_make job out) (λ all. all)) (rows_of qs ms rs)
    joins_after = All-weaker (ByJob RunsThere (λ p n. ⊤)) (IsJoinable {D = Departure E I} identity (λ job out. HandsOver identity may_serve may_leave may_ready may_init may_make job out) (λ all. all)) joins_one (rows_of qs ms rs) runs_after

    -- a service that could not be made
    unstarted_is : (worker token : ℕ) (error : I) → IsUnstarted {F = F} (λ job out. HandsOver identity may_serve may_leave may_ready may_init may_make job out) (λ all. all) (rows_of qs ms rs) worker token error
        → (worker < length rs) × (token < listeners) × may_init factory token error
    unstarted_is worker token error u =
        let inside = slice_get_within (rows_of qs ms rs) worker u.row u.at in
        let here : ByJob RunsThere (λ p n. ⊤) u.row =
        subst (ByJob RunsThere (λ p n. ⊤)) (get_or_from_slice_get (rows_of qs ms rs) worker u.row u.row u.at) (runs_after worker u.row inside) in
        let runs : RunsThere (line_of u.row.parcels u.row.notes u.running) = subst (λ r. by_job RunsThere (λ p n. ⊤) u.row.parcels u.row.notes r) u.runs here in
        let departs = departs_by u.departed in
        (omega (arith, inside, rows_length qs ms rs many_after.0 many_after.1), subst (λ n. token < n) runs.as_many departs.0, runs.means.inits token error departs.1)
      where
        departs_by : (u.out.departure ≡ UnstartedJob token error) ⊎ ((readiness : E) × (u.out.departure ≡ FaultedJob token readiness error))
            → (token < listeners_of (job_of u.running)) × may_init (factory_of (job_of u.running)) token error
        departs_by (inl is) = let departs = rw is at u.promised.departs in (departs.1, departs.2)
        departs_by (inr fault) = let departs = rw fault.1 at u.promised.departs in (departs.1, departs.3)

    pub startup_is : (count : ℕ) → count ≡ length first → (unstarted : Option (Unstarted I)) (error : ServeError I)
        → IfSome unstarted (λ u. IsUnstarted {F = F} (λ job out. HandsOver identity may_serve may_leave may_ready may_init may_make job out) (λ all. all) (rows_of qs ms rs) u.worker u.token u.error)
        → IsErrorOf unstarted error → IsStartup count listeners (may_init factory) error
    startup_is count many None error knows is = subst (IsStartup count listeners (may_init factory)) (sym is) tt
    startup_is count many (Some u) error knows is =
        let known = unstarted_is u.worker u.token u.error knows in
        subst (IsStartup count listeners (may_init factory)) (sym is) (omega (arith, many, same_number, known.0), known.1, known.2)

  many : (length (parcels_of b) ≡ length rs) × (length (notes_of b) ≡ length rs)
  many = crew.as_many

  -- as many workers as the acceptor knows
  outs : length (core_of b).out ≡ length rs
  outs = let m = many.0 in omega (arith, b.workers, m)

  -- no more came back from a worker than was put on its ring
  pub fewer_after : All (λ row. many_back identity row ≤ many_put identity row) (rows_of (parcels_of b) (notes_of b) rs)
  fewer_after = rows_fewer identity (parcels_of b) (notes_of b) rs (core_of b).out carried.out

  out_after : sum_by (many_put identity) (rows_of (parcels_of b) (notes_of b) rs) ≡ sum_by (many_back identity) (rows_of (parcels_of b) (notes_of b) rs) + sum (core_of b).out
  out_after = rows_out identity (parcels_of b) (notes_of b) rs (core_of b).out carried.out many.0 many.1 outs

  -- there is room for what is out
  pub room_after : (spare : ℕ) → out_of b ≤ spare → sum_by (many_put identity) (rows_of (parcels_of b) (notes_of b) rs) ≤ sum_by (many_back identity) (rows_of (parcels_of b) (notes_of b) rs) + spare
  room_after spare room = let out = out_after in omega (arith, out, room)

  -- each worker that was put a connection told before that its services stand
  noted : IsNoted b
  noted = accepts.acts.awaits.noted (λ w is. absurd (unmarked (length (parcels_of a)) w (subst (λ marks. slice_index_or marks w false ≡ true) fresh.ready is)))

  still_after : All (IsStill identity) (rows_of (parcels_of b) (notes_of b) rs)
  still_after = by_ready (all_ready b) refl
    where
      by_ready : (ready : Bool) → all_ready b ≡ ready → All (IsStill identity) (rows_of (parcels_of b) (notes_of b) rs)
      by_ready true is = all_rows (IsStill identity) (parcels_of b) (notes_of b) rs (λ w p n r at_p at_n at_r.
          inr (subst (λ o. IfSome o (λ c. Contains (received c) Ready)) at_n (noted w (marked (ready_of b) w is (let m = many in let i = slice_get_within (notes_of b) w n at_n in omega (arith, i, m.0, m.1, b.workers))))))
      by_ready false is = all_rows (IsStill identity) (parcels_of b) (notes_of b) rs (λ w p n r at_p at_n at_r.
          let none = b.early is in
          let put : put identity (λ c. 1) b.parcels.items ≡ 0 = omega (arith, none, carried.count) in
          inl (sym (ap (λ o. option_map_or (λ (p : Producer (Parcel L) Global AnyItems). sum_by (of_parcel identity (λ c. 1)) (sent p)) o 0) at_p)
          ∙ at_of_none (λ (p : Producer (Parcel L) Global AnyItems). sum_by (of_parcel identity (λ c. 1)) (sent p)) (parcels_of b) w put))

  well_one : (w : ℕ) (p : Producer (Parcel L) Global AnyItems) (n : Consumer (Note L) Global AnyItems) (r : Option (Running (WorkerJob L F) (Handed L F (Departure E I))))
      → by_job (Runs may_serve may_leave may_ready may_init may_make identity factory listeners workers w (core_of b)) (IsRetired {E = E} {I = I} may_serve may_leave may_ready may_init may_make identity factory listeners workers w (core_of b)) p n r
      → IsWell may_serve may_leave may_ready may_init may_make identity workers factory listeners (row_of p n r)
  well_one w p n None is = is.settled
  well_one w p n (Some r) is = is.runs

  well : All (IsWell may_serve may_leave may_ready may_init may_make identity workers factory listeners) (rows_of (parcels_of b) (notes_of b) rs)
  well = all_rows (IsWell may_serve may_leave may_ready may_init may_make identity workers factory listeners) (parcels_of b) (notes_of b) rs
      (λ w p n r at_p at_n at_r. well_one w p n r (crew.each w p n r at_p at_n at_r))

  few : 0 + length (rows_of (parcels_of b) (notes_of b) rs) ≤ workers
  few = omega (arith, rows_length (parcels_of b) (notes_of b) rs many.0 many.1)

  -- the workers are joined, and what comes back only then is handed on
  module _ (spare : D → ℕ) (qs : List (Producer (Parcel L) Global AnyItems)) (ms : List (Consumer (Note L) Global AnyItems)) (parcels : qs ≡ parcels_of b) (notes : ms ≡ notes_of b)
      (then_new : D) (end : End) (ends : Ends (MayFault (may_ready factory) (may_init factory) listeners) b end) (is_last : last ≡ ends_alone (Some end))
      (returns : ReturnsBy {D = Departure E I} identity (λ job out. HandsOver identity may_serve may_leave may_ready may_init may_make job out) (λ all. all) taken count served spare (rows_of qs ms rs) new then_new) where
    abbrev rows : List (Row L (WorkerJob L F) (Handed L F (Departure E I)))
    rows = rows_of (parcels_of b) (notes_of b) rs

    brought : BringBack {D = Departure E I} identity (λ job out. HandsOver identity may_serve may_leave may_ready may_init may_make job out) (λ all. all) 0 rows returns.entries
    brought = subst (λ ps. BringBack {D = Departure E I} identity (λ job out. HandsOver identity may_serve may_leave may_ready may_init may_make job out) (λ all. all) 0 (rows_of ps (notes_of b) rs) returns.entries) parcels
        (subst (λ ns. BringBack {D = Departure E I} identity (λ job out. HandsOver identity may_serve may_leave may_ready may_init may_make job out) (λ all. all) 0 (rows_of qs ns rs) returns.entries) notes returns.brought)

    as_parcels : parcels_of b ≡ map (λ l. l.parcels) rows
    as_parcels = map_parcels (parcels_of b) (notes_of b) rs many.0 many.1

    as_notes : notes_of b ≡ map (λ l. l.notes) rows
    as_notes = map_notes (parcels_of b) (notes_of b) rs many.0 many.1

    told : All (λ l. All (IsTale workers Fault (may_serve factory) (may_leave factory) (may_make factory) listeners (sent l.parcels)) (received l.notes)) rows
    told = told_rows may_serve may_leave may_ready may_init may_make identity workers factory listeners 0 rows returns.entries brought few well still_after

    -- what was put on the rings is what came back, and what the joins brought
    weighs_by : (h : Card → ℕ) → put identity h (map (λ (l : Row L (WorkerJob L F) (Handed L F (Departure E I))). l.parcels) rows)
        ≡ came_back identity h (map (λ (l : Row L (WorkerJob L F) (Handed L F (Departure E I))). l.notes) rows) + sum_by (of_entry identity h) returns.entries
    weighs_by h =
        let w = weighs may_serve may_leave may_ready may_init may_make identity workers factory listeners h 0 rows returns.entries brought few well still_after in
        let p = sum_map (λ p. sum_by (of_parcel identity h) (sent p)) (λ (l : Row L (WorkerJob L F) (Handed L F (Departure E I))). l.parcels) rows in
        let n = sum_map (λ c. sum_by (of_note identity h) (received c)) (λ (l : Row L (WorkerJob L F) (Handed L F (Departure E I))). l.notes) rows in
        omega (arith, w, p, n)

    -- as many as were out
    as_many_brought : length returns.entries ≡ sum (core_of b).out
    as_many_brought =
        let w : sum_by (many_put identity) rows ≡ sum_by (many_back identity) rows + sum_by (λ (e : Entry L). 1) returns.entries =
        weighs may_serve may_leave may_ready may_init may_make identity workers factory listeners (λ c. 1) 0 rows returns.entries brought few well still_after in
        let out = out_after in omega (arith, w, out, ones returns.entries)

    abbrev all : List (Entry L)
    all = accepts.acts.passes.more ++ returns.entries

    from_joins : All (λ e. (l : Row L (WorkerJob L F) (Handed L F (Departure E I))) × Contains rows l × IsFrom workers Fault (may_serve factory) (may_leave factory) (sent l.parcels) e) returns.entries
    from_joins = from_rows may_serve may_leave may_ready may_init may_make identity workers factory listeners 0 rows returns.entries brought few well still_after

    module _ (same_served : (f : F) (token : ℕ) (link : L) (ended : Ended L) → may_serve f token link ended → identity ended.link ≡ identity link)
        (same_left : (f : F) (token : ℕ) (link back : L) → may_leave f token link back → identity back ≡ identity link) where
      abbrev FromOrGone : Entry L → Type 0
      FromOrGone e = ((l : Row L (WorkerJob L F) (Handed L F (Departure E I))) × Contains rows l × IsFrom workers Fault (may_serve factory) (may_leave factory) (sent l.parcels) e) ⊎ IsLetGo left before last e

      from_all : All FromOrGone all
      from_all = all_from identity workers Fault (may_serve factory) (may_leave factory) (may_make factory) listeners given left before after b accepts.acts.passes.more returns.entries rows
          (same_served factory) (same_left factory) last carried (finished Fault b end ends) as_parcels as_notes weighs_by told from_joins

      -- one was stopped only where the run was
      stopped : (e : End) → Ends Fault b e → All (λ entry. is_stopped entry.outcome ≡ true → is_stop e ≡ true) all
      stopped Drained f i d inside so = absurd (none_stopped b accepts.acts.passes.more returns.entries f.4 accepts.acts.passes.founded (let o = f.2 in let m = as_many_brought in omega (arith, o, m)) i d inside so)
      stopped (Stopped graceful) f i d inside so = refl
      stopped NoWorkers f i d inside so = absurd (none_stopped b accepts.acts.passes.more returns.entries f.2 accepts.acts.passes.founded (let o = f.1 in let m = as_many_brought in omega (arith, o, m)) i d inside so)
      stopped Memory f i d inside so = absurd (none_stopped b accepts.acts.passes.more returns.entries f.4 accepts.acts.passes.founded (let o = f.2 in let m = as_many_brought in omega (arith, o, m)) i d inside so)

      -- one is lost only by a worker that may end by a fault, or where none is left
      alone : (e : End) → ends_alone (Some e) ≡ true → e ≡ NoWorkers
      alone Drained is = absurd (cc)
      alone (Stopped graceful) is = absurd (cc)
      alone NoWorkers is = refl
      alone Memory is = absurd (cc)

      lost_here : (o : Outcome) → IsLostHere workers Fault o → IsLostBy (length first) Fault end o
      lost_here outcome.Served is = tt
      lost_here outcome.ReadFault is = tt
      lost_here outcome.WriteFault is = tt
      lost_here outcome.Upgraded is = tt
      lost_here (outcome.Lost None) is = absurd is
      lost_here (outcome.Lost (Some worker)) is = (omega (arith, is.0, same_number), is.1)
      lost_here (outcome.Stopped forced) is = tt
      lost_here outcome.Memory is = tt

      lost : (e : Entry L) → FromOrGone e → IsLostBy (length first) Fault end e.outcome
      lost e (inl of) = lost_here e.outcome of.2.lost
      lost e (inr gone) = by_gone gone.0
        where
          by_gone : ((e.outcome ≡ outcome.Stopped false) ⊎ ((e.outcome ≡ outcome.Lost None) × (last ≡ true))) → IsLostBy (length first) Fault end e.outcome
          by_gone (inl is) = subst (IsLostBy (length first) Fault end) (sym is) tt
          by_gone (inr is) = subst (IsLostBy (length first) Fault end) (sym is.0) (alone end (sym is_last ∙ is.1))

      outcomes : All (HasCause (length first) Fault end) all
      outcomes i d inside = record { stopped = stopped end ends i d inside; lost = lost _ (from_all i d inside) }

      pub in_time_all : (start now : ℕ) → InTime b timeout start now → ServesInTime given left identity (may_serve factory) (may_leave factory) taken count served before after old then_new (length first) Fault end (start + 1000 * timeout ≤ now)
      in_time_all start now in_time = record {
        serves = record {
          entries = all;
          adds = adds_trans taken count served old new then_new accepts.acts.passes.more returns.entries accepts.acts.passes.adds returns.hands.adds;
          delivers = delivers identity workers Fault (may_serve factory) (may_leave factory) (may_make factory) listeners given left before after b accepts.acts.passes.more returns.entries rows
              (same_served factory) (same_left factory) last carried (finished Fault b end ends) as_parcels as_notes weighs_by told from_joins;
          outcomes = outcomes;
          faulted = faulted end ends;
        };
        forced = λ i d inside. by_place _ (from_all i d inside);
      }
        where
          faulted : (e : End) → Ends Fault b e → e ≡ NoWorkers → Fault
          faulted Drained f is = absurd (cc)
          faulted (Stopped graceful) f is = absurd (cc)
          faulted NoWorkers f is = f.3
          faulted Memory f is = absurd (cc)

          by_place : (e : Entry L) → FromOrGone e → IsForcedInTime end (start + 1000 * timeout ≤ now) e
          by_place e (inl of) forced = forced_on_line Fault b timeout start now in_time end ends (notes_of b) rs of.0 of.1.0 of.1.1 of.1.2 (of.2.force forced)
          by_place e (inr gone) forced = absurd (unforced gone.0)
            where
              unforced : ((e.outcome ≡ outcome.Stopped false) ⊎ ((e.outcome ≡ outcome.Lost None) × (last ≡ true))) → ⊥
              unforced (inl is) = let f : false ≡ true = sym (ap is_forced is) ∙ forced in cc
              unforced (inr is) = let f : false ≡ true = sym (ap is_forced is.0) ∙ forced in cc

    pub made_all : 0 < length first → all_ready b ≡ true → (token : ℕ) → token < listeners → may_make factory token
    made_all some ready =
        let front = first_row (λ l. All (IsTale workers Fault (may_serve factory) (may_leave factory) (may_make factory) listeners (sent l.parcels)) (received l.notes)) (λ c. Contains (received c) Ready) (parcels_of b) (notes_of b) rs (omega (arith, some, same_number)) many.0 many.1 told
        (noted 0 (marked (ready_of b) 0 ready (omega (arith, some, same_number, many.0, b.workers)))) in
        All-contains (IsTale workers Fault (may_serve factory) (may_leave factory) (may_make factory) listeners (sent front.0.parcels)) (received front.0.notes) Ready front.1 front.2

  -- what is told of the listeners
  pub tells_run : (report : Report) → Ends (MayFault (may_ready factory) (may_init factory) listeners) b report.end → listeners ≡ length before → length report.listeners.items ≡ length after
      → ((t : ℕ) → IfSome (slice_get report.listeners.items t) (IsStateOf (core_of b) (retry_limit_of b) t)) → Tells rest ended faults (retry_limit_of a) before after report
  tells_run report ends listens many_told states =
      tells_all rest ended faults (retry_limit_of a) before after (core_of a) b report Fault (λ t. ap (λ s. slice_index_or s.ended t false) fresh.core ∙ none_ended listeners t) accepts.acts.tells ends accepts.acts.as_many many_told
      (let e = ap (λ s. length s.ended) fresh.core in omega (arith, e, accepts.acts.listeners, accepts.acts.as_many, listens, length-replicate {A = Bool} listeners false))
      (subst (λ n. (t : ℕ) → IfSome (slice_get report.listeners.items t) (IsStateOf (core_of b) n t)) accepts.acts.limit states)
      (λ t inside. has_failed given rest faults identity before after a b accepts.events (length (parcels_of a)) listeners fresh.core accepts.acts.logged t (retry_limit_of a) (TellsOf report t (Faulted (retry_limit_of a)))
      (told_exactly b report t (retry_limit_of a) accepts.acts.limit (let e = all_there in omega (arith, e, inside)) (omega (arith, many_told, inside)) (states t)))
    where
      all_there : length (core_of b).ended ≡ length after
      all_there = let e = ap (λ s. length s.ended) fresh.core in omega (arith, e, accepts.acts.listeners, accepts.acts.as_many, listens, length-replicate {A = Bool} listeners false)
