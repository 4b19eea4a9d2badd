-- The workers of a run, from their start on, through the turns of the acceptor.
use Rattle.std.proofs.Common.{◌≡◌, ◌<◌, ◌++◌, ◌∷◌, [], ℕ, zero, suc, true, false, List, All, Contains, Option, None, Some, IfSome, length, slice_get, sum_by, refl, sym, ◌∙◌, ap, arith, subst, inl, inr, append_assoc}
use Rattle.std.specs.Prelude.{◌⊎◌, Bool, count_by, slice_index_or}
use Rattle.std.specs.FinSet as set
use Rattle.std.specs.Option.{option_map_or}
use Rattle.std.proofs.lemmas.List.{append-nil, length-map}
use Rattle.std.proofs.lemmas.List.Elements.{All-append, All-cons, All-nil, All-weaker, Contains-append_right}
use Rattle.std.proofs.lemmas.List.Sums.{sum_by-append, sum_by-cons}
use Rattle.std.specs.declared.alloc.Global.{Global}
use Rattle.rtrb.specs.Ring.{received, sent}
use Rattle.rtrb.specs.declared.AnyItems.{AnyItems}
use Rattle.rtrb.specs.declared.consumer.Consumer.{Consumer}
use Rattle.rtrb.specs.declared.producer.Producer.{Producer}
use Rattle.service_core.specs.Link.{Identity}
use Rattle.service_core.specs.Meaning.{Readiness}
use Rattle.service_core.specs.declared.ended.Ended.{Ended}
use Rattle.server_acceptor.specs.Accepting.{Does, EndsByFault, IsNoted, is_sent}
use Rattle.server_acceptor.specs.Acceptors.{all_ready, core_of, notes_of as rings_back, parcels_of as rings_to, ready_of}
use Rattle.server_acceptor.specs.Beginning.{IsNew}
use Rattle.server_acceptor.specs.Notes.{count_back}
use Rattle.server_acceptor.specs.Rings.{count_put, ring_in, ring_out}
use Rattle.server_acceptor.specs.declared.acceptor.Acceptor.{Acceptor}
use Rattle.server_core.specs.Core.{Core, in_order}
use Rattle.server_core.specs.declared.event.Event.{Event}
use Rattle.server_jobs.specs.Cards.{Card, of_note, of_parcel}
use Rattle.server_jobs.specs.Jobs.{job_of}
use Rattle.server_jobs.specs.declared.handed.Handed.{Handed}
use Rattle.server_jobs.specs.declared.note.Note.{Note}
use Rattle.server_jobs.specs.declared.note.Note.TheVariants.{Ready, Back, Faulted}
use Rattle.server_jobs.specs.declared.parcel.Parcel.{Parcel}
use Rattle.server_jobs.specs.declared.parcel.Parcel.TheVariants.{Conn, Stop}
use Rattle.server_jobs.specs.declared.running.Running.{Running}
use Rattle.server_run.specs.Listener.{Mark}
use Rattle.server_run.specs.Serving.{MayFault}
use Rattle.server_run.specs.declared.entry.Entry.{Entry}
use Rattle.server.specs.Accepting.{Accepts}
use Rattle.server_acceptor.specs.Carrying.{Carries}
use Rattle.server.specs.Replacing.{Crew, HasFaulted, IsEven, IsRetired, IsSettled, Restarts, Runs}
use Rattle.std.specs.List.{list_all}
use Rattle.server.specs.Rows.{by_job, line_of, rows_of}
use Rattle.server.specs.Starting.{HasStarted, IsStarted}
use Rattle.server.specs.Tales.{IsTale}
use Rattle.server.proofs.CoreSteps.{none_sent, order_all}
use Rattle.server.proofs.Rows.{map_at, row_at, runs_kept}
use Rattle.server.proofs.TaleSteps.{tale_onward}
use Rattle.worker_job.specs.Jobs.{notes_of}
use Rattle.worker_job.specs.declared.departure.Departure.{Departure}
use Rattle.worker_job.specs.declared.worker_job.WorkerJob.{WorkerJob}

-- a mark is set at each place
pub marked : (marks : List Bool) (w : ℕ) → list_all (λ m. m) marks ≡ true → w < length marks → slice_index_or marks w false ≡ true
marked [] w all inside = absurd (omega arith)
marked (true ∷ marks) zero all inside = refl
marked (true ∷ marks) (suc w) all inside = marked marks w all (omega arith)
marked (false ∷ marks) w all inside = absurd (cc)

-- what starts workers did nothing more
pub restarts_none : (may_fault : Type 0) (now : ℕ × ℕ) → Restarts may_fault now now
restarts_none may_fault now = record { starts = omega arith; cause = inl refl }

pub restarts_same : (may_fault : Type 0) (before mid now : ℕ × ℕ) → Restarts may_fault before mid → now ≡ mid → Restarts may_fault before now
restarts_same may_fault before mid now so_far same = subst (Restarts may_fault before) (sym same) so_far

pub restarts_trans : (may_fault : Type 0) (before mid now : ℕ × ℕ) → Restarts may_fault before mid → Restarts may_fault mid now → Restarts may_fault before now
restarts_trans may_fault before mid now p q = record { starts = let a = p.starts in let b = q.starts in omega (arith, a, b); cause = both p.cause q.cause }
  where
    both : ((mid ≡ before) ⊎ may_fault) → ((now ≡ mid) ⊎ may_fault) → (now ≡ before) ⊎ may_fault
    both (inl first) (inl second) = inl (second ∙ first)
    both (inl first) (inr fault) = inr fault
    both (inr fault) second = inr fault

-- what is at a place of a list
pub at_place : {X Y : Type 0} (f : X → Y) (xs : List X) (w : ℕ) (x : X) (none : Y) → slice_get xs w ≡ Some x → option_map_or f (slice_get xs w) none ≡ f x
at_place f xs w x none at = ap (λ o. option_map_or f o none) at

-- notes among which none hands a connection back weigh nothing
light : {L : Type 0} (identity : L → Identity) (h : Card → ℕ) (ns : List (Note L)) → sum_by (of_note identity (λ c. 1)) ns ≡ 0 → sum_by (of_note identity h) ns ≡ 0
light identity h [] none = refl
light identity h (Ready ∷ ns) none = let a = sum_by-cons (of_note identity (λ c. 1)) Ready ns in let b = sum_by-cons (of_note identity h) Ready ns in let r = light identity h ns (omega (arith, a, none)) in omega (arith, b, r)
light identity h (Back e ∷ ns) none = absurd (let a = sum_by-cons (of_note identity (λ c. 1)) (Back e) ns in omega (arith, a, none))
light identity h (Faulted ∷ ns) none = let a = sum_by-cons (of_note identity (λ c. 1)) Faulted ns in let b = sum_by-cons (of_note identity h) Faulted ns in let r = light identity h ns (omega (arith, a, none)) in omega (arith, b, r)

light_parcels : {L : Type 0} (identity : L → Identity) (h : Card → ℕ) (ps : List (Parcel L)) → sum_by (of_parcel identity (λ c. 1)) ps ≡ 0 → sum_by (of_parcel identity h) ps ≡ 0
light_parcels identity h [] none = refl
light_parcels identity h (Conn s t p link ∷ ps) none = absurd (let a = sum_by-cons (of_parcel identity (λ c. 1)) (Conn s t p link) ps in omega (arith, a, none))
light_parcels identity h (Stop graceful ∷ ps) none = let a = sum_by-cons (of_parcel identity (λ c. 1)) (Stop graceful) ps in let b = sum_by-cons (of_parcel identity h) (Stop graceful) ps in let r = light_parcels identity h ps (omega (arith, a, none)) in omega (arith, b, r)

module _ {L : Type 0} (identity : L → Identity) (workers : ℕ) (may_fault : Type 0) (may_serve : ℕ → L → Ended L → Type 0) (may_leave : ℕ → L → L → Type 0) (may_make : ℕ → Type 0) (listeners : ℕ) where
  -- true notes, among which none hands a connection back
  light_tales : (parcels : List (Parcel L)) (ns : List (Note L)) → ((token : ℕ) → token < listeners → may_make token) → sum_by (of_note identity (λ c. 1)) ns ≡ 0 → All (IsTale workers may_fault may_serve may_leave may_make listeners parcels) ns
  light_tales parcels [] makes none = All-nil (IsTale workers may_fault may_serve may_leave may_make listeners parcels)
  light_tales parcels (Ready ∷ ns) makes none = All-cons (IsTale workers may_fault may_serve may_leave may_make listeners parcels) Ready ns makes
      (light_tales parcels ns makes (let a = sum_by-cons (of_note identity (λ c. 1)) Ready ns in omega (arith, a, none)))
  light_tales parcels (Back e ∷ ns) makes none = absurd (let a = sum_by-cons (of_note identity (λ c. 1)) (Back e) ns in omega (arith, a, none))
  light_tales parcels (Faulted ∷ ns) makes none = All-cons (IsTale workers may_fault may_serve may_leave may_make listeners parcels) Faulted ns tt
      (light_tales parcels ns makes (let a = sum_by-cons (of_note identity (λ c. 1)) Faulted ns in omega (arith, a, none)))

  -- more went over the rings of a retired worker, but no connection
  settled_on : (p q : Producer (Parcel L) Global AnyItems) (n m : Consumer (Note L) Global AnyItems) (stops : List (Parcel L)) (more : List (Note L)) → sent q ≡ sent p ++ stops → received m ≡ received n ++ more
      → sum_by (of_parcel identity (λ c. 1)) stops ≡ 0 → sum_by (of_note identity (λ c. 1)) more ≡ 0 → ((token : ℕ) → token < listeners → may_make token)
      → IsSettled identity workers may_fault may_serve may_leave may_make listeners p n → IsSettled identity workers may_fault may_serve may_leave may_make listeners q m
  settled_on p q n m stops more went came no_put no_back makes settled = record {
    balanced = λ h.
        let a = ap (sum_by (of_parcel identity h)) went in
        let b = sum_by-append (of_parcel identity h) (sent p) stops in
        let c = ap (sum_by (of_note identity h)) came in
        let d = sum_by-append (of_note identity h) (received n) more in
        let e = light_parcels identity h stops no_put in
        let f = light identity h more no_back in
        let g = settled.balanced h in omega (arith, a, b, c, d, e, f, g);
    told = subst (All (IsTale workers may_fault may_serve may_leave may_make listeners (sent q))) (sym came)
        (All-append (IsTale workers may_fault may_serve may_leave may_make listeners (sent q)) (received n) more
        (All-weaker (IsTale workers may_fault may_serve may_leave may_make listeners (sent p)) (IsTale workers may_fault may_serve may_leave may_make listeners (sent q))
        (tale_onward workers may_fault may_serve may_leave (sent p) stops (sent q) went may_make listeners) (received n) settled.told)
        (light_tales (sent q) more makes no_back));
  }

module _ {L F E I : Type 0} (may_serve : F → ℕ → L → Ended L → Type 0) (may_leave : F → ℕ → L → L → Type 0) (may_ready : F → ℕ → Readiness E → Type 0) (may_init : F → ℕ → I → Type 0) (may_make : F → ℕ → Type 0)
    (identity : L → Identity) (factory : F) (listeners limit retry_limit timeout : ℕ) (a : Acceptor L) (rs : List (Option (Running (WorkerJob L F) (Handed L F (Departure E I)))))
    (fresh : IsNew a (rings_to a) (rings_back a) listeners limit retry_limit timeout) (as_many : (length (rings_to a) ≡ length rs) × (length (rings_back a) ≡ length rs))
    (started : All (HasStarted may_serve may_leave may_ready may_init may_make identity (length rs) factory listeners) (rows_of (rings_to a) (rings_back a) rs)) where
  start_one : (w : ℕ) (p : Producer (Parcel L) Global AnyItems) (n : Consumer (Note L) Global AnyItems) (r : Option (Running (WorkerJob L F) (Handed L F (Departure E I))))
      → by_job (IsStarted may_serve may_leave may_ready may_init may_make identity (length rs) factory listeners) (λ p n. ⊥) p n r
      → by_job (Runs may_serve may_leave may_ready may_init may_make identity factory listeners (length rs) w (core_of a)) (IsRetired {E = E} {I = I} may_serve may_leave may_ready may_init may_make identity factory listeners (length rs) w (core_of a)) p n r
  start_one w p n None is = absurd is
  start_one w p n (Some r) is = record {
    runs = is.runs;
    more = [];
    since = is.received_none ∙ sym is.unsent ∙ sym (append-nil (sent (notes_of (job_of r))));
    kept = ap (λ (s : Core). set.contains s.retired w) fresh.core ∙ set.contains-empty _ w;
  }

  pub crew_start : Crew may_serve may_leave may_ready may_init may_make identity factory listeners a rs
  crew_start = record {
    as_many = as_many;
    each = λ w p n r at_p at_n at_r. start_one w p n r (row_at (HasStarted may_serve may_leave may_ready may_init may_make identity (length rs) factory listeners) (rings_to a) (rings_back a) rs started w p n r at_p at_n at_r);
  }

module _ {Li L D F E I : Type 0} (given : Li → ℕ) (left : Li → Option (List L)) (rest : Li → Option (List Mark)) (identity : L → Identity) (ended : Li → Bool) (faults : Li → ℕ)
    (taken : D → Option (List (Entry L))) (count served : D → ℕ)
    (may_serve : F → ℕ → L → Ended L → Type 0) (may_leave : F → ℕ → L → L → Type 0) (may_ready : F → ℕ → Readiness E → Type 0) (may_init : F → ℕ → I → Type 0) (may_make : F → ℕ → Type 0)
    (factory : F) (listeners : ℕ) where
  abbrev CrewOf : Acceptor L → List (Option (Running (WorkerJob L F) (Handed L F (Departure E I)))) → Type 0
  CrewOf a rs = Crew may_serve may_leave may_ready may_init may_make identity factory listeners a rs

  -- by a turn
  module _ (before after : List Li) (a b : Acceptor L) (old new : D) (events : List Event) (rs : List (Option (Running (WorkerJob L F) (Handed L F (Departure E I)))))
      (does : Does given left rest identity ended faults taken count served before after a b old new events) (even : IsEven identity b) (crew : CrewOf a rs) where
    core : ((core_of b).order ≡ (core_of a).order) × ((core_of b).retired ≡ (core_of a).retired)
    core =
        let all = order_all (core_of a) events does.of_use in
        let is = does.acts.logged.core in
        (ap (λ (s : Core). s.order) is ∙ all.0, ap (λ (s : Core). s.retired) is ∙ all.1)

    many : (length (rings_to b) ≡ length rs) × (length (rings_back b) ≡ length rs)
    many = (
      (let e = ap length does.acts.rings.parcels in omega (arith, e, length-map (rings_to b) ring_in, length-map (rings_to a) ring_in, crew.as_many.0)),
      (let e = ap length does.acts.rings.notes in omega (arith, e, length-map (rings_back b) ring_out, length-map (rings_back a) ring_out, crew.as_many.1)),
    )

    on_place : (w : ℕ) (q p : Producer (Parcel L) Global AnyItems) (m n : Consumer (Note L) Global AnyItems) (r : Option (Running (WorkerJob L F) (Handed L F (Departure E I))))
        → slice_get (rings_to b) w ≡ Some q → slice_get (rings_to a) w ≡ Some p → slice_get (rings_back b) w ≡ Some m → slice_get (rings_back a) w ≡ Some n → ring_in q ≡ ring_in p → ring_out m ≡ ring_out n
        → by_job (Runs may_serve may_leave may_ready may_init may_make identity factory listeners (length rs) w (core_of a)) (IsRetired {E = E} {I = I} may_serve may_leave may_ready may_init may_make identity factory listeners (length rs) w (core_of a)) p n r
        → by_job (Runs may_serve may_leave may_ready may_init may_make identity factory listeners (length rs) w (core_of b)) (IsRetired {E = E} {I = I} may_serve may_leave may_ready may_init may_make identity factory listeners (length rs) w (core_of b)) q m r
    on_place w q p m n (Some r) at_q at_p at_m at_n ins outs runs = record {
      runs = runs_kept may_serve may_leave may_ready may_init may_make identity (length rs) factory listeners p q n m r ins outs runs.runs;
      more = runs.more ++ (does.acts.receives w).more;
      since = came ∙ ap (λ ns. ns ++ (does.acts.receives w).more) runs.since ∙ append_assoc (sent (notes_of (job_of r))) runs.more (does.acts.receives w).more;
      kept = ap (λ s. set.contains s w) core.1 ∙ runs.kept;
    }
      where
        came : received m ≡ received n ++ (does.acts.receives w).more
        came = sym (at_place (λ c. received c) (rings_back b) w m [] at_m) ∙ (does.acts.receives w).came ∙ ap (λ ns. ns ++ (does.acts.receives w).more) (at_place (λ c. received c) (rings_back a) w n [] at_n)
    on_place w q p m n None at_q at_p at_m at_n ins outs retired = record {
      settled = settled_on identity (length rs) (MayFault (may_ready factory) (may_init factory) listeners) (may_serve factory) (may_leave factory) (may_make factory) listeners p q n m (does.acts.puts w).more (does.acts.receives w).more
          went came no_put no_back retired.makes retired.settled;
      off = ap (λ order. in_order order w) core.0 ∙ retired.off;
      gone = ap (λ s. set.contains s w) core.1 ∙ retired.gone;
      makes = retired.makes;
      fault = retired.fault;
    }
      where
        went : sent q ≡ sent p ++ (does.acts.puts w).more
        went = sym (at_place (λ x. sent x) (rings_to b) w q [] at_q) ∙ (does.acts.puts w).went ∙ ap (λ ps. ps ++ (does.acts.puts w).more) (at_place (λ x. sent x) (rings_to a) w p [] at_p)

        came : received m ≡ received n ++ (does.acts.receives w).more
        came = sym (at_place (λ c. received c) (rings_back b) w m [] at_m) ∙ (does.acts.receives w).came ∙ ap (λ ns. ns ++ (does.acts.receives w).more) (at_place (λ c. received c) (rings_back a) w n [] at_n)

        put_at : (x : Acceptor L) (y : Producer (Parcel L) Global AnyItems) → slice_get (rings_to x) w ≡ Some y → count_put identity (rings_to x) w ≡ sum_by (of_parcel identity (λ c. 1)) (sent y)
        put_at x y at = at_place (λ z. sum_by (of_parcel identity (λ c. 1)) (sent z)) (rings_to x) w y 0 at

        back_at : (x : Acceptor L) (y : Consumer (Note L) Global AnyItems) → slice_get (rings_back x) w ≡ Some y → count_back identity (rings_back x) w ≡ sum_by (of_note identity (λ c. 1)) (received y)
        back_at x y at = at_place (λ z. sum_by (of_note identity (λ c. 1)) (received z)) (rings_back x) w y 0 at

        none : count_by (is_sent w) events ≡ 0
        none = none_sent (core_of a) events w does.acts.logged.allowed does.of_use retired.off

        no_put : sum_by (of_parcel identity (λ c. 1)) (does.acts.puts w).more ≡ 0
        no_put =
            let a1 = put_at a p at_p in let b1 = put_at b q at_q in
            let more = does.acts.logged.sent_on w in
            let e = ap (sum_by (of_parcel identity (λ c. 1))) went in
            let f = sum_by-append (of_parcel identity (λ c. 1)) (sent p) (does.acts.puts w).more in
            omega (arith, a1, b1, more, e, f, none)

        no_back : sum_by (of_note identity (λ c. 1)) (does.acts.receives w).more ≡ 0
        no_back =
            let a1 = put_at a p at_p in let b1 = put_at b q at_q in
            let a2 = back_at a n at_n in let b2 = back_at b m at_m in
            let more = does.acts.logged.sent_on w in
            let is_even = even w in
            let balanced = retired.settled.balanced (λ c. 1) in
            let e = ap (sum_by (of_note identity (λ c. 1))) came in
            let f = sum_by-append (of_note identity (λ c. 1)) (received n) (does.acts.receives w).more in
            omega (arith, a1, b1, a2, b2, more, is_even, balanced, e, f, none)

    pub crew_turn : CrewOf b rs
    crew_turn = record {
      as_many = many;
      each = λ w q m r at_q at_m at_r.
          let p = map_at ring_in (rings_to a) (rings_to b) w q does.acts.rings.parcels at_q in
          let n = map_at ring_out (rings_back a) (rings_back b) w m does.acts.rings.notes at_m in
          on_place w q p.0 m n.0 r at_q p.1 at_m n.1 p.2 n.2 (crew.each w p.0 n.0 r p.1 n.1 at_r);
    }

    -- a worker that told of a fault in this turn
    pub faulted_turn : (w : ℕ) → EndsByFault a b w → IsNoted b → all_ready b ≡ true → HasFaulted may_serve may_leave may_ready may_init may_make identity factory listeners b w rs
    faulted_turn w ends noted ready q m r at_q at_m at_r =
        let p = map_at ring_in (rings_to a) (rings_to b) w q does.acts.rings.parcels at_q in
        let n = map_at ring_out (rings_back a) (rings_back b) w m does.acts.rings.notes at_m in
        let runs : Runs may_serve may_leave may_ready may_init may_make identity factory listeners (length rs) w (core_of a) (line_of p.0 n.0 r) = crew.each w p.0 n.0 (Some r) p.1 n.1 at_r in
        let came : received m ≡ received n.0 ++ ends.more = sym (at_place (λ c. received c) (rings_back b) w m [] at_m) ∙ ends.came ∙ ap (λ ns. ns ++ ends.more) (at_place (λ c. received c) (rings_back a) w n.0 [] n.1) in (
          subst (λ o. IfSome o (λ c. Contains (received c) Ready)) at_m (noted w (marked (ready_of b) w ready (let i = inside (rings_back b) w m at_m in omega (arith, i, b.workers)))),
          (
            runs.more ++ ends.more,
            came ∙ ap (λ ns. ns ++ ends.more) runs.since ∙ append_assoc (sent (notes_of (job_of r))) runs.more ends.more,
            Contains-append_right runs.more ends.more Faulted ends.faulted,
          ),
        )
      where
        inside : {X : Type 0} (xs : List X) (w : ℕ) (x : X) → slice_get xs w ≡ Some x → w < length xs
        inside [] w x at = absurd (cc)
        inside (y ∷ ys) zero x at = omega arith
        inside (y ∷ ys) (suc w) x at = let r = inside ys w x at in omega (arith, r)

-- what is out at each worker, once more was carried
pub even_after : {Li L D : Type 0} (given : Li → ℕ) (left : Li → Option (List L)) (rest : Li → Option (List Mark)) (identity : L → Identity) (ended : Li → Bool) (faults : Li → ℕ)
    (taken : D → Option (List (Entry L))) (count served : D → ℕ) (before after : List Li) (a b : Acceptor L) (old new : D) → Carries given left identity false before before a []
    → Accepts given left rest identity ended faults taken count served before after a b old new false → IsEven identity b
even_after given left rest identity ended faults taken count served before after a b old new carries accepts w = (accepts.acts.passes.carries false (λ is. is) before [] carries).out w
