-- Of each worker: what was put on its ring came back, or its join brought it back.
use Rattle.std.proofs.Common.{◌≡◌, ◌<◌, ◌≤◌, ◌++◌, ◌∷◌, [], ℕ, zero, suc, ◌+◌, false, List, All, Contains, Some, None, Option, length, sum_by, refl, sym, ap, arith, subst, inl, inr}
use Rattle.std.specs.Prelude.{◌⊎◌}
use Rattle.std.proofs.lemmas.List.Sums.{sum_by-append, sum_by-cons}
use Rattle.std.proofs.lemmas.List.Elements.{All-append, All-cons, All-head, All-nil, All-tail, All-weaker}
use Rattle.std.specs.declared.alloc.Global.{Global}
use Rattle.rtrb.specs.Ring.{known_items, received, sent}
use Rattle.rtrb.specs.declared.AnyItems.{AnyItems}
use Rattle.rtrb.specs.declared.consumer.Consumer.{Consumer}
use Rattle.rtrb.specs.declared.producer.Producer.{Producer}
use Rattle.service_core.specs.Link.{Identity}
use Rattle.service_core.specs.Meaning.{Readiness}
use Rattle.service_core.specs.declared.ended.Ended.{Ended}
use Rattle.server_run.specs.Serving.{MayFault}
use Rattle.server_run.specs.declared.entry.Entry.{Entry}
use Rattle.server_run.specs.declared.outcome.Outcome.TheVariants.{Stopped}
use Rattle.server_jobs.specs.Cards.{Card, of_entry, of_note, of_parcel}
use Rattle.server_jobs.specs.Returning.{brought_back, entries_of, entry_of_note, entry_of_parcel, entry_of_waiting}
use Rattle.server_jobs.specs.declared.handed.Handed.{Handed}
use Rattle.server_jobs.specs.declared.note.Note.{Note}
use Rattle.server_jobs.specs.declared.note.Note.TheVariants.{Ready}
use Rattle.server_jobs.specs.declared.parcel.Parcel.{Parcel}
use Rattle.server_jobs.specs.declared.parcel.Parcel.TheVariants.{Conn, Stop}
use Rattle.server_jobs.specs.declared.running.Running.{Running}
use Rattle.worker_job.specs.Promise.{HandsOver}
use Rattle.worker_job.specs.declared.departure.Departure.{Departure}
use Rattle.worker_job.specs.declared.worker_job.WorkerJob.{WorkerJob}
use Rattle.server.specs.Joining.{IsJoined}
use Rattle.server.specs.Replacing.{IsSettled, entry_left}
use Rattle.server.specs.Returning.{BringBack, Brings, ReturnsAll, many_put}
use Rattle.server.specs.Rows.{ByJob, Row, by_job, line_of}
use Rattle.server.specs.Starting.{RunsFor}
use Rattle.server.specs.Tales.{IsFrom, IsTale}
use Rattle.server.proofs.BackSteps.{from_known, from_left, from_owed, is_there, none_or_fault, true_came}
use Rattle.server.proofs.Bringing.{brought_once}
use Rattle.server.proofs.TaleSteps.{from_parcels}

-- the entries of what is left in the ring are those that were stopped as they came
pub left_stopped : {L : Type 0} (ps : List (Parcel L)) → entries_of (entry_left (Stopped false)) ps ≡ entries_of entry_of_parcel ps
left_stopped [] = refl
left_stopped (Conn s t p link ∷ ps) = ap (λ es. record { serial = s; token = t; place = p; link = link; outcome = Stopped false } ∷ es) (left_stopped ps)
left_stopped (Stop graceful ∷ ps) = left_stopped ps

-- nothing was put on the ring of a worker, or its place told that its services stand
abbrev pub IsStill : {L J O : Type 0} → (L → Identity) → Row L J O → Type 0
IsStill identity row = (many_put identity row ≡ 0) ⊎ Contains (received row.notes) Ready

module _ {L F E I : Type 0} (may_serve : F → ℕ → L → Ended L → Type 0) (may_leave : F → ℕ → L → L → Type 0) (may_ready : F → ℕ → Readiness E → Type 0)
    (may_init : F → ℕ → I → Type 0) (may_make : F → ℕ → Type 0) (identity : L → Identity) (workers : ℕ) (factory : F) (listeners : ℕ) where
  abbrev Fault : Type 0
  Fault = MayFault (may_ready factory) (may_init factory) listeners

  abbrev Rows : Type 0
  Rows = Row L (WorkerJob L F) (Handed L F (Departure E I))

  abbrev pub IsWell : Row L (WorkerJob L F) (Handed L F (Departure E I)) → Type 0
  IsWell row = ByJob (RunsFor may_serve may_leave may_ready may_init may_make identity workers factory listeners)
      (IsSettled identity workers (MayFault (may_ready factory) (may_init factory) listeners) (may_serve factory) (may_leave factory) (may_make factory) listeners) row

  abbrev Back : Row L (WorkerJob L F) (Handed L F (Departure E I)) → List (Entry L) → Type 0
  Back row back = ReturnsAll identity workers Fault (may_serve factory) (may_leave factory) (may_make factory) listeners row back

  -- one whose job is joined
  module _ (worker : ℕ) (number : worker < workers) (p : Producer (Parcel L) Global AnyItems) (n : Consumer (Note L) Global AnyItems) (r : Running (WorkerJob L F) (Handed L F (Departure E I)))
      (runs : RunsFor may_serve may_leave may_ready may_init may_make identity workers factory listeners (line_of p n r))
      (it : IsJoined {D = Departure E I} identity (λ job out. HandsOver identity may_serve may_leave may_ready may_init may_make job out) (λ all. all) (line_of p n r))
      (still : (sum_by (of_parcel identity (λ c. 1)) (sent p) ≡ 0) ⊎ Contains (received n) Ready) where
    abbrev From : List (Entry L) → Type 0
    From es = All (IsFrom workers Fault (may_serve factory) (may_leave factory) (sent p)) es

    rest : From (entries_of (entry_of_waiting worker) it.joined.handed.rest.items)
    rest = by (none_or_fault may_serve may_leave may_ready may_init may_make identity workers factory listeners (line_of p n r) runs it still)
      where
        by : (it.joined.handed.rest.items ≡ []) ⊎ Fault → From (entries_of (entry_of_waiting worker) it.joined.handed.rest.items)
        by (inl none) = subst (λ ws. From (entries_of (entry_of_waiting worker) ws)) (sym none) (All-nil (IsFrom workers Fault (may_serve factory) (may_leave factory) (sent p)))
        by (inr fault) = from_left may_serve may_leave may_ready may_init may_make identity workers factory listeners (line_of p n r) runs it worker number fault

    left : From (entries_of entry_of_parcel (known_items it.joined.handed.parcels))
    left = subst From (left_stopped (known_items it.joined.handed.parcels))
        (from_parcels workers Fault (may_serve factory) (may_leave factory) (sent p) (Stopped false) (λ token link. refl) refl tt (known_items it.joined.handed.parcels)
        (is_there may_serve may_leave may_ready may_init may_make identity workers factory listeners (line_of p n r) runs it))

    brought : From (brought_back worker it.joined)
    brought =
        let P = IsFrom workers Fault (may_serve factory) (may_leave factory) (sent p) in
        All-append P (entries_of entry_of_note (known_items it.joined.notes)) (entries_of entry_of_note it.joined.handed.owed.items ++ (entries_of (entry_of_waiting worker) it.joined.handed.rest.items ++ entries_of entry_of_parcel (known_items it.joined.handed.parcels)))
        (from_known may_serve may_leave may_ready may_init may_make identity workers factory listeners (line_of p n r) runs it)
        (All-append P (entries_of entry_of_note it.joined.handed.owed.items) (entries_of (entry_of_waiting worker) it.joined.handed.rest.items ++ entries_of entry_of_parcel (known_items it.joined.handed.parcels))
        (from_owed may_serve may_leave may_ready may_init may_make identity workers factory listeners (line_of p n r) runs it)
        (All-append P (entries_of (entry_of_waiting worker) it.joined.handed.rest.items) (entries_of entry_of_parcel (known_items it.joined.handed.parcels)) rest left))

    returns_line : ReturnsAll identity workers Fault (may_serve factory) (may_leave factory) (may_make factory) listeners (record { parcels = p; notes = n; running = Some r }) (brought_back worker it.joined)
    returns_line = record {
      once = λ h.
          let once = brought_once identity worker it.joined it.once h in
          let p = ap (sum_by (of_parcel identity h)) it.same_sent in
          let q = ap (sum_by (of_note identity h)) it.same_received in
          omega (arith, once, p, q);
      told = true_came may_serve may_leave may_ready may_init may_make identity workers factory listeners (line_of p n r) runs it;
      brought = brought;
    }

  -- one by one
  returns_row : (worker : ℕ) → worker < workers → (p : Producer (Parcel L) Global AnyItems) (n : Consumer (Note L) Global AnyItems) (r : Option (Running (WorkerJob L F) (Handed L F (Departure E I)))) (here : List (Entry L))
      → by_job (RunsFor may_serve may_leave may_ready may_init may_make identity workers factory listeners) (IsSettled identity workers Fault (may_serve factory) (may_leave factory) (may_make factory) listeners) p n r
      → (sum_by (of_parcel identity (λ c. 1)) (sent p) ≡ 0) ⊎ Contains (received n) Ready
      → Brings {D = Departure E I} identity (λ job out. HandsOver identity may_serve may_leave may_ready may_init may_make job out) (λ all. all) worker (record { parcels = p; notes = n; running = r }) r here
      → Back (record { parcels = p; notes = n; running = r }) here
  returns_row worker number p n None here settled still brings = record {
    once = λ h. let b = settled.balanced h in let e = ap (sum_by (of_entry identity h)) brings in omega (arith, b, e);
    told = settled.told;
    brought = subst (All (IsFrom workers Fault (may_serve factory) (may_leave factory) (sent p))) (sym brings) (All-nil (IsFrom workers Fault (may_serve factory) (may_leave factory) (sent p)));
  }
  returns_row worker number p n (Some r) here runs still brings =
      subst (λ es. Back (record { parcels = p; notes = n; running = Some r }) es) (sym brings.1) (returns_line worker number p n r runs brings.0 still)

  abbrev BringsAll : ℕ → List (Row L (WorkerJob L F) (Handed L F (Departure E I))) → List (Entry L) → Type 0
  BringsAll worker rows entries = BringBack {D = Departure E I} identity (λ job out. HandsOver identity may_serve may_leave may_ready may_init may_make job out) (λ all. all) worker rows entries

  -- what was put on all rings is what came back over the others, and what the joins brought back
  module _ where
    at : (worker : ℕ) (row : Row L (WorkerJob L F) (Handed L F (Departure E I))) (rows : List (Row L (WorkerJob L F) (Handed L F (Departure E I)))) (entries : List (Entry L)) (back : BringsAll worker (row ∷ rows) entries)
        → worker + length (row ∷ rows) ≤ workers → All IsWell (row ∷ rows) → All (IsStill identity) (row ∷ rows) → Back row back.2
    at worker row rows entries back few well still =
        returns_row worker (omega (arith, few)) row.parcels row.notes row.running back.2 (All-head IsWell row rows well) (All-head (IsStill identity) row rows still) back.3

    pub weighs : (h : Card → ℕ) (worker : ℕ) (rows : List (Row L (WorkerJob L F) (Handed L F (Departure E I)))) (entries : List (Entry L)) → BringsAll worker rows entries → worker + length rows ≤ workers → All IsWell rows → All (IsStill identity) rows
        → sum_by (λ (l : Row L (WorkerJob L F) (Handed L F (Departure E I))). sum_by (of_parcel identity h) (sent l.parcels)) rows
        ≡ sum_by (λ (l : Row L (WorkerJob L F) (Handed L F (Departure E I))). sum_by (of_note identity h) (received l.notes)) rows + sum_by (of_entry identity h) entries
    weighs h worker [] entries none few well still = let e = ap (sum_by (of_entry identity h)) none in omega (arith, e)
    weighs h worker (l ∷ ls) entries back few well still =
        let here = (at worker l ls entries back few well still).once h in
        let rest = weighs h (worker + 1) ls back.0 back.1 (omega (arith, few)) (All-tail IsWell l ls well) (All-tail (IsStill identity) l ls still) in
        let a = sum_by-cons (λ (l : Row L (WorkerJob L F) (Handed L F (Departure E I))). sum_by (of_parcel identity h) (sent l.parcels)) l ls in
        let b = sum_by-cons (λ (l : Row L (WorkerJob L F) (Handed L F (Departure E I))). sum_by (of_note identity h) (received l.notes)) l ls in
        let c = ap (sum_by (of_entry identity h)) back.4 in
        let d = sum_by-append (of_entry identity h) back.0 back.2 in
        omega (arith, here, rest, a, b, c, d)

    abbrev OfARow : List (Row L (WorkerJob L F) (Handed L F (Departure E I))) → Entry L → Type 0
    OfARow rows e = (l : Row L (WorkerJob L F) (Handed L F (Departure E I))) × Contains rows l × IsFrom workers Fault (may_serve factory) (may_leave factory) (sent l.parcels) e

    later : (l : Row L (WorkerJob L F) (Handed L F (Departure E I))) (ls : List (Row L (WorkerJob L F) (Handed L F (Departure E I)))) (e : Entry L) → OfARow ls e → OfARow (l ∷ ls) e
    later l ls e of = (of.0, (suc of.1.0, omega (arith, of.1.1), of.1.2), of.2)

    -- each that a join brought back came over the worker's ring
    pub from_rows : (worker : ℕ) (rows : List (Row L (WorkerJob L F) (Handed L F (Departure E I)))) (entries : List (Entry L)) → BringsAll worker rows entries → worker + length rows ≤ workers → All IsWell rows → All (IsStill identity) rows → All (OfARow rows) entries
    from_rows worker [] entries none few well still = subst (All (OfARow [])) (sym none) (All-nil (OfARow []))
    from_rows worker (l ∷ ls) entries back few well still =
        let here = (at worker l ls entries back few well still).brought in
        let rest = from_rows (worker + 1) ls back.0 back.1 (omega (arith, few)) (All-tail IsWell l ls well) (All-tail (IsStill identity) l ls still) in
        subst (All (OfARow (l ∷ ls))) (sym back.4)
        (All-append (OfARow (l ∷ ls)) back.0 back.2
        (All-weaker (OfARow ls) (OfARow (l ∷ ls)) (later l ls) back.0 rest)
        (All-weaker (IsFrom workers Fault (may_serve factory) (may_leave factory) (sent l.parcels)) (OfARow (l ∷ ls)) (λ e of. (l, (zero, omega arith, refl), of)) back.2 here))

    -- what the notes of a worker's place told is true
    abbrev TellsTrue : Row L (WorkerJob L F) (Handed L F (Departure E I)) → Type 0
    TellsTrue l = All (IsTale workers Fault (may_serve factory) (may_leave factory) (may_make factory) listeners (sent l.parcels)) (received l.notes)

    pub told_rows : (worker : ℕ) (rows : List (Row L (WorkerJob L F) (Handed L F (Departure E I)))) (entries : List (Entry L)) → BringsAll worker rows entries → worker + length rows ≤ workers → All IsWell rows → All (IsStill identity) rows
        → All (λ l. All (IsTale workers (MayFault (may_ready factory) (may_init factory) listeners) (may_serve factory) (may_leave factory) (may_make factory) listeners (sent l.parcels)) (received l.notes)) rows
    told_rows worker [] entries none few well still = All-nil TellsTrue
    told_rows worker (l ∷ ls) entries back few well still = All-cons TellsTrue l ls (at worker l ls entries back few well still).told
        (told_rows (worker + 1) ls back.0 back.1 (omega (arith, few)) (All-tail IsWell l ls well) (All-tail (IsStill identity) l ls still))
