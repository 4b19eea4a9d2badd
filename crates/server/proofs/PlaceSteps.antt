-- The workers of a run once the job of one was joined, and it was replaced or retired.
use Rattle.std.proofs.Common.{◌≡◌, ◌≢◌, ◌≤◌, ◌<◌, ◌++◌, ◌∷◌, [], ℕ, zero, suc, ◌+◌, Bool, true, false, true≢false, List, All, Contains, Option, None, Some, IfSome, length, map, slice_get, slice_index, sum_by, refl, sym, ◌∙◌, ap, arith, subst, inl, inr, length-set}
use Rattle.std.specs.Prelude.{◌==◌, ◌||◌, ◌-◌, ◌^◌, cond, count_by, is_some, min, nat_lt, slice_index_or, slice_set, sum}
use Rattle.std.specs.List.{list_any, range_with_len}
use Rattle.std.specs.FinSet as set
use Rattle.std.specs.Option.{option_map_or}
use Rattle.std.proofs.lemmas.Bool.{cases_eq, cases_lt}
use Rattle.std.proofs.lemmas.Bool.Decides.{nat_tests}
use Rattle.std.proofs.lemmas.List.{append-nil, get_or_past, length-map}
use Rattle.std.proofs.lemmas.List.Folds.{list_all_at}
use Rattle.std.proofs.lemmas.List.FromFn.{get_or-range_with_len, length-range_with_len}
use Rattle.std.proofs.lemmas.Option.{slice_get_past, slice_get_read, slice_get_within}
use Rattle.std.proofs.lemmas.List.Sums.{sum_by-append, sum_by-cons}
use Rattle.std.specs.declared.alloc.Global.{Global}
use Rattle.rtrb.specs.Ring.{IsPair, known_items, received, sent}
use Rattle.rtrb.specs.declared.AnyItems.{AnyItems}
use Rattle.rtrb.specs.declared.consumer.Consumer.{Consumer}
use Rattle.rtrb.specs.declared.producer.Producer.{Producer}
use Rattle.service_core.specs.Counts.{risen}
use Rattle.service_core.specs.Link.{Identity}
use Rattle.service_core.specs.Meaning.{Readiness}
use Rattle.service_core.specs.declared.ended.Ended.{Ended}
use Rattle.server_acceptor.specs.Accepting.{received_at}
use Rattle.server_acceptor.specs.Acceptors.{core_of, notes_of as rings_back, parcels_of as rings_to, workers_of}
use Rattle.server_acceptor.specs.Notes.{count_back}
use Rattle.server_acceptor.specs.Rings.{count_put, ring_in, ring_out}
use Rattle.server_acceptor.proofs.PlaceSteps.{contains_inserted}
use Rattle.server_acceptor.specs.Sending.{IsStopped, sent_to}
use Rattle.server_acceptor.specs.declared.acceptor.Acceptor.{Acceptor}
use Rattle.server_core.proofs.Orders.{in_order-push}
use Rattle.server_core.specs.Core.{Core, all_retired, allowed, held, in_order, let_go, may_return, step}
use Rattle.server_core.specs.declared.event.Event.TheVariants.{Replaced, Retired}
use Rattle.server_jobs.specs.Cards.{of_note, of_parcel}
use Rattle.server_jobs.specs.Jobs.{job_of}
use Rattle.server_jobs.specs.Parcels.{is_stop}
use Rattle.server_jobs.specs.Returning.{entries_of, entry_of_note}
use Rattle.server_jobs.specs.declared.handed.Handed.{Handed}
use Rattle.server_jobs.specs.declared.note.Note.{Note}
use Rattle.server_jobs.specs.declared.note.Note.TheVariants.{Ready, Faulted}
use Rattle.server_jobs.specs.declared.parcel.Parcel.{Parcel}
use Rattle.server_jobs.specs.declared.running.Running.{Running}
use Rattle.server_run.specs.Outcome.{is_stopped}
use Rattle.server_run.specs.Serving.{MayFault}
use Rattle.server_run.specs.declared.outcome.Outcome.{Outcome}
use Rattle.server_worker.proofs.Lists.{slice_get-set_other, slice_get-set_same}
use Rattle.server.specs.Parting.{IsParted}
use Rattle.server.specs.Replacing.{Crew, HasFaulted, IsEven, IsRetired, IsSuccessor, KeepsOthers, MayTakeBack, Recalls, Runs, all_back}
use Rattle.server.specs.Retiring.{IsUnfaulted, MayEndEarly, vacancy}
use Rattle.server.specs.Rows.{by_job, line_of}
use Rattle.server.specs.Starting.{RunsFor}
use Rattle.server.proofs.CoreSteps.{or_later, same_is}
use Rattle.server.proofs.CrewSteps.{at_place}
use Rattle.server.proofs.ReplaceSteps.{all_taken, crew_after, early_there, fault_there, keeps_looked, keeps_rings, keeps_taken, keeps_trans, makes_there, off_replaced, many_there, owed_calm, place_there, runs_anew, sent_at, settled_now}
use Rattle.server.proofs.RetireSteps.{all_vacant}
use Rattle.server.proofs.Rows.{map_at, runs_kept}
use Rattle.server.proofs.TakeBackSteps.{received_same}
use Rattle.worker_job.specs.Jobs.{notes_of}
use Rattle.worker_job.specs.declared.departure.Departure.{Departure}
use Rattle.worker_job.specs.declared.worker_job.WorkerJob.{WorkerJob}

pub there : {X : Type 0} (xs : List X) (w : ℕ) → w < length xs → (x : X) × (slice_get xs w ≡ Some x)
there [] w inside = absurd (omega arith)
there (x ∷ xs) zero inside = (x, refl)
there (x ∷ xs) (suc w) inside = there xs w (omega arith)

-- where one is found, it is counted
found : {X : Type 0} (test : X → Bool) (ys : List X) → list_any test ys ≡ true → 0 < count_by test ys
found test [] has = absurd (cc)
found {X = X} test (y ∷ ys) has = by_test (test y) refl (λ rest. found test ys rest)
  where
    by_test : (b : Bool) → test y ≡ b → (list_any test ys ≡ true → 0 < count_by test ys) → 0 < count_by test (y ∷ ys)
    by_test true is later = let more = sum_by-cons (λ (x : X). cond (test x) 1 0) y ys in let one : ◌≡◌ {A = ℕ} (cond (test y) 1 0) 1 = ap (λ b. cond b 1 0) is in omega (arith, more, one)
    by_test false is later = let more = sum_by-cons (λ (x : X). cond (test x) 1 0) y ys in let rest = later (rw is at has) in omega (arith, more, rest)

counted : {X : Type 0} (test : X → Bool) (xs ys : List X) → list_any test ys ≡ true → 0 < count_by test (xs ++ ys)
counted {X = X} test xs ys has = let all = sum_by-append (λ (x : X). cond (test x) 1 0) xs ys in let some = found test ys has in omega (arith, all, some)

pub some_is : {X : Type 0} (P : X → Type 0) (o : Option X) (x : X) → o ≡ Some x → IfSome o P → P x
some_is P o x is has = rw is at has

all_zero : (xs : List ℕ) → ((v : ℕ) → slice_index xs v ≡ 0) → sum xs ≡ 0
all_zero [] each = refl
all_zero (x ∷ xs) each = let a = sum_by-cons (λ y. y) x xs in let here = each zero in let rest = all_zero xs (λ v. each (suc v)) in omega (arith, a, here, rest)

module _ {F L E I : Type 0} (may_serve : F → ℕ → L → Ended L → Type 0) (may_leave : F → ℕ → L → L → Type 0) (may_ready : F → ℕ → Readiness E → Type 0) (may_init : F → ℕ → I → Type 0) (may_make : F → ℕ → Type 0)
    (identity : L → Identity) (factory : F) (listeners : ℕ) (a b : Acceptor L) (w : ℕ) (rs ss : List (Option (Running (WorkerJob L F) (Handed L F (Departure E I))))) (handed : Handed L F (Departure E I))
    (crew : Crew may_serve may_leave may_ready may_init may_make identity factory listeners a rs) (faulted : HasFaulted may_serve may_leave may_ready may_init may_make identity factory listeners a w rs) (even : IsEven identity a)
    (parted : IsParted may_serve may_leave may_ready may_init may_make identity a b w rs ss handed) where
  abbrev Fault : Type 0
  Fault = MayFault (may_ready factory) (may_init factory) listeners

  number : w < length rs
  number = slice_get_within rs w (Some parted.ended) parted.was

  many : length ss ≡ length rs
  many = ap length parted.vacant ∙ length-set rs w None

  elsewhere : (v : ℕ) → v ≢ w → slice_get ss v ≡ slice_get rs v
  elsewhere v other = ap (λ xs. slice_get xs v) parted.vacant ∙ slice_get-set_other rs w v None other

  vacant_now : slice_get ss w ≡ Some None
  vacant_now = ap (λ xs. slice_get xs w) parted.vacant ∙ slice_get-set_same rs w None number

  p_at : (p : Producer (Parcel L) Global AnyItems) × (slice_get (rings_to b) w ≡ Some p)
  p_at = there (rings_to b) w (let e = ap length parted.keeps.rings.0 in let m = crew.as_many.0 in let i = number in omega (arith, e, m, i, length-map (rings_to b) ring_in, length-map (rings_to a) ring_in))

  n_at : (n : Consumer (Note L) Global AnyItems) × (slice_get (rings_back b) w ≡ Some n)
  n_at = there (rings_back b) w (let e = ap length parted.keeps.rings.1 in let m = crew.as_many.1 in let i = number in omega (arith, e, m, i, length-map (rings_back b) ring_out, length-map (rings_back a) ring_out))

  abbrev p : Producer (Parcel L) Global AnyItems
  p = p_at.0

  abbrev n : Consumer (Note L) Global AnyItems
  n = n_at.0

  first_p : (q : Producer (Parcel L) Global AnyItems) × (slice_get (rings_to a) w ≡ Some q) × (ring_in p ≡ ring_in q)
  first_p = map_at ring_in (rings_to a) (rings_to b) w p parted.keeps.rings.0 p_at.1

  first_n : (m : Consumer (Note L) Global AnyItems) × (slice_get (rings_back a) w ≡ Some m) × (ring_out n ≡ ring_out m)
  first_n = map_at ring_out (rings_back a) (rings_back b) w n parted.keeps.rings.1 n_at.1

  came : received n ≡ received first_n.0
  came = sym (at_place (λ c. received c) (rings_back b) w n [] n_at.1) ∙ parted.came ∙ at_place (λ c. received c) (rings_back a) w first_n.0 [] first_n.1

  runs_first : Runs may_serve may_leave may_ready may_init may_make identity factory listeners (length rs) w (core_of a) (line_of first_p.0 first_n.0 parted.ended)
  runs_first = crew.each w first_p.0 first_n.0 (Some parted.ended) first_p.1 first_n.1 parted.was

  runs : RunsFor may_serve may_leave may_ready may_init may_make identity (length rs) factory listeners (line_of p n parted.ended)
  runs = runs_kept may_serve may_leave may_ready may_init may_make identity (length rs) factory listeners first_p.0 p first_n.0 n parted.ended first_p.2 first_n.2 runs_first.runs

  told : Contains (received first_n.0) Ready × ((more : List (Note L)) × (received first_n.0 ≡ sent (notes_of (job_of parted.ended)) ++ more) × Contains more Faulted)
  told = faulted first_p.0 first_n.0 parted.ended first_p.1 first_n.1 parted.was

  abbrev more : List (Note L)
  more = told.1.0

  ready_now : Contains (received n) Ready
  ready_now = subst (λ ns. Contains ns Ready) (sym came) told.0

  since_now : received n ≡ sent (notes_of (job_of parted.ended)) ++ more
  since_now = came ∙ told.1.1

  to_p : received handed.parcels ++ known_items handed.parcels ≡ sent p
  to_p = parted.to_it ∙ at_place (λ x. sent x) (rings_to b) w p [] p_at.1

  from_n : received n ++ known_items n ≡ sent handed.notes
  from_n = some_is (λ c. received c ++ known_items c ≡ sent handed.notes) (slice_get (rings_back b) w) n n_at.1 parted.from_it

  pub fault_now : Fault
  fault_now = fault_there may_serve may_leave may_ready may_init may_make identity factory listeners (length rs) w number p n parted.ended runs parted.out handed parted.promised parted.inward parted.outward parted.same to_p from_n ready_now more since_now told.1.2

  pub calm_now : All (λ e. is_stopped e.outcome ≡ true → ⊥) (entries_of entry_of_note handed.owed.items)
  calm_now = owed_calm may_serve may_leave may_ready may_init may_make identity factory listeners (length rs) w number p n parted.ended runs parted.out handed parted.promised parted.inward parted.outward parted.same to_p from_n ready_now more since_now told.1.2

  taken_now : received n ≡ sent handed.notes
  taken_now = all_taken may_serve may_leave may_ready may_init may_make identity factory listeners (length rs) w number p n parted.ended runs parted.out handed parted.promised parted.inward parted.outward parted.same to_p from_n ready_now more since_now told.1.2

  put_now : count_put identity (rings_to a) w ≡ sum_by (of_parcel identity (λ c. 1)) (sent p)
  put_now = at_place (λ x. sum_by (of_parcel identity (λ c. 1)) (sent x)) (rings_to a) w first_p.0 0 first_p.1 ∙ ap (sum_by (of_parcel identity (λ c. 1))) (sym (sent_at may_serve may_leave may_ready may_init may_make identity factory listeners w a b parted.keeps w first_p.0 p first_p.1 p_at.1))

  back_now : count_back identity (rings_back a) w ≡ sum_by (of_note identity (λ c. 1)) (received n)
  back_now = at_place (λ x. sum_by (of_note identity (λ c. 1)) (received x)) (rings_back a) w first_n.0 0 first_n.1 ∙ ap (sum_by (of_note identity (λ c. 1))) (sym came)

  many_now : (o : Outcome) → length (all_back o w handed) ≡ slice_index (core_of b).out w
  many_now o = many_there may_serve may_leave may_ready may_init may_make identity factory listeners (length rs) w number p n parted.ended runs parted.out handed parted.promised parted.inward parted.outward parted.same to_p from_n ready_now more since_now told.1.2
      o (count_put identity (rings_to a) w) (count_back identity (rings_back a) w) (slice_index (core_of b).out w) put_now back_now (even w ∙ ap (λ x. count_back identity (rings_back a) w + slice_index x w) (sym parted.out_same))

  pub may_now : w < workers_of b → (o : Outcome) → MayTakeBack b w handed.notes (length (all_back o w handed))
  may_now inside o = record {
    number = inside;
    pair = parted.pair_from;
    all = at_place (λ c. received c) (rings_back b) w n [] n_at.1 ∙ taken_now;
    place = place_there may_serve may_leave may_ready may_init may_make identity factory listeners (length rs) w number p n parted.ended runs parted.out handed parted.promised parted.inward parted.outward parted.same to_p from_n ready_now more since_now told.1.2;
    off = parted.off;
    enough = let m = many_now o in omega (arith, m);
  }

  pub early_now : IsUnfaulted handed.departure → (1 ≤ length (sent (notes_of (job_of parted.ended)))) × ((error : Option (ℕ × I)) × MayEndEarly (may_init factory) listeners error)
  early_now = early_there may_serve may_leave may_ready may_init may_make identity factory listeners (length rs) w number p n parted.ended runs parted.out handed parted.promised parted.inward parted.outward parted.same to_p from_n ready_now more since_now told.1.2

  -- a stop that is left in its ring was sent
  pub stop_there : list_any is_stop (known_items handed.parcels) ≡ true → IsStopped (rings_to a) w
  stop_there has = subst (λ ps. 0 < count_by is_stop ps) sent_there (counted is_stop (received handed.parcels) (known_items handed.parcels) has)
    where
      sent_there : received handed.parcels ++ known_items handed.parcels ≡ sent_to (rings_to a) w
      sent_there = to_p ∙ sent_at may_serve may_leave may_ready may_init may_make identity factory listeners w a b parted.keeps w first_p.0 p first_p.1 p_at.1 ∙ sym (at_place (λ x. sent x) (rings_to a) w first_p.0 [] first_p.1)

  -- it was not retired
  pub kept_first : set.contains (core_of a).retired w ≡ false
  kept_first = runs_first.kept

  pub none_left_now : (c : Acceptor L) (recalls : Recalls b c w handed) → slice_index (core_of c).out w ≡ 0
  none_left_now c recalls = let m = many_now recalls.outcome in let o = recalls.takes.out in omega (arith, m, o)

  -- once it was taken back
  module _ (c d : Acceptor L) (recalls : Recalls b c w handed) (onward : KeepsOthers w c d) (came_d : received_at (rings_back d) w ≡ received_at (rings_back c) w) where
    ends : KeepsOthers w a d
    ends = keeps_trans w a b d parted.keeps (keeps_trans w b c d (keeps_taken w b c handed.notes recalls.notes (all_back recalls.outcome w handed) recalls.takes) onward)

    sent_same : (q : Producer (Parcel L) Global AnyItems) → slice_get (rings_to d) w ≡ Some q → sent q ≡ sent p
    sent_same q at_q = sent_at may_serve may_leave may_ready may_init may_make identity factory listeners w b d (keeps_trans w b c d (keeps_taken w b c handed.notes recalls.notes (all_back recalls.outcome w handed) recalls.takes) onward) w p q p_at.1 at_q

    came_same : (m : Consumer (Note L) Global AnyItems) → slice_get (rings_back d) w ≡ Some m → received m ≡ sent recalls.notes
    came_same m at_m = sym (at_place (λ x. received x) (rings_back d) w m [] at_m) ∙ came_d ∙ recalls.takes.all

    -- none takes its place
    pub crew_retired : in_order (core_of d).order w ≡ false → set.contains (core_of d).retired w ≡ true → Crew may_serve may_leave may_ready may_init may_make identity factory listeners d ss
    crew_retired off_d gone_d = crew_after may_serve may_leave may_ready may_init may_make identity factory listeners w a d ends rs ss many elsewhere crew (λ q m o at_q at_m at_o.
        let same_one : Some None ≡ Some o = sym vacant_now ∙ at_o in
        let is : None ≡ o = cc in
        subst (λ x. by_job (Runs may_serve may_leave may_ready may_init may_make identity factory listeners (length rs) w (core_of d)) (IsRetired {E = E} {I = I} may_serve may_leave may_ready may_init may_make identity factory listeners (length rs) w (core_of d)) q m x) is
        (record {
          settled = settled_now may_serve may_leave may_ready may_init may_make identity factory listeners (length rs) w number p n parted.ended runs parted.out handed parted.promised parted.inward parted.outward parted.same to_p from_n ready_now more since_now told.1.2
              recalls.outcome recalls.as_left recalls.notes recalls.takes.went q m (sent_same q at_q) (came_same m at_m);
          off = off_d;
          gone = gone_d;
          makes = makes_there may_serve may_leave may_ready may_init may_make identity factory listeners (length rs) w number p n parted.ended runs parted.out handed parted.promised parted.inward parted.outward parted.same to_p from_n ready_now more since_now told.1.2;
          fault = fault_now;
        }))

    -- another one does
    pub crew_replaced : (ts : List (Option (Running (WorkerJob L F) (Handed L F (Departure E I))))) (job : WorkerJob L F) (s : Running (WorkerJob L F) (Handed L F (Departure E I))) → ts ≡ slice_set ss w (Some s) → IsSuccessor c w handed listeners job
        → job_of s ≡ job → rings_back d ≡ rings_back c → (core_of d).retired ≡ (core_of a).retired → Crew may_serve may_leave may_ready may_init may_make identity factory listeners d ts
    crew_replaced ts job s filled succeeds is same_back retired = crew_after may_serve may_leave may_ready may_init may_make identity factory listeners w a d ends rs ts many_then elsewhere_then crew (λ q m o at_q at_m at_o.
        let same_one : Some (Some s) ≡ Some o = sym at_then ∙ at_o in
        let one : Some s ≡ o = cc in
        let now = succeeds.all in
        let sends : sent (notes_of job) ≡ sent recalls.notes = sym now ∙ recalls.takes.all in
        subst (λ x. by_job (Runs may_serve may_leave may_ready may_init may_make identity factory listeners (length rs) w (core_of d)) (IsRetired {E = E} {I = I} may_serve may_leave may_ready may_init may_make identity factory listeners (length rs) w (core_of d)) q m x) one
        (record {
          runs = runs_anew may_serve may_leave may_ready may_init may_make identity factory listeners (length rs) w number p n parted.ended runs parted.out handed parted.promised parted.inward parted.outward parted.same to_p from_n ready_now more since_now told.1.2
              recalls.outcome recalls.as_left recalls.notes recalls.takes.went job succeeds.parcels succeeds.came succeeds.notes sends succeeds.unstopped succeeds.same_factory succeeds.as_many
              q m s is (ring_same q at_q) (some_is (λ x. IsPair (notes_of job) x) (slice_get (rings_back c) w) m (ap (λ ns. slice_get ns w) (sym same_back) ∙ at_m) succeeds.pair);
          more = [];
          since = came_same m at_m ∙ sym sends ∙ ap (λ j. sent (notes_of j)) (sym is) ∙ sym (append-nil (sent (notes_of (job_of s))));
          kept = ap (λ x. set.contains x w) retired ∙ runs_first.kept;
        }))
      where
        many_then : length ts ≡ length rs
        many_then = ap length filled ∙ length-set ss w (Some s) ∙ many

        elsewhere_then : (v : ℕ) → v ≢ w → slice_get ts v ≡ slice_get rs v
        elsewhere_then v other = ap (λ xs. slice_get xs v) filled ∙ slice_get-set_other ss w v (Some s) other ∙ elsewhere v other

        at_then : slice_get ts w ≡ Some (Some s)
        at_then = ap (λ xs. slice_get xs w) filled ∙ slice_get-set_same ss w (Some s) (subst (λ n. w < n) (sym many) number)

        ring_same : (q : Producer (Parcel L) Global AnyItems) → slice_get (rings_to d) w ≡ Some q → ring_in q ≡ ring_in p
        ring_same q at_q =
            let x = map_at ring_in (rings_to b) (rings_to d) w q (onward.rings.0 ∙ recalls.takes.rings.0) at_q in
            let same_one : Some x.0 ≡ Some p = sym x.1 ∙ p_at.1 in
            let one : x.0 ≡ p = cc in x.2 ∙ ap ring_in one

    -- nothing is out there
    pub none_there_now : (core_of d).out ≡ (core_of c).out → slice_index (core_of d).out w ≡ 0
    none_there_now same_d = let m = many_now recalls.outcome in let o = recalls.takes.out in let e = ap (λ xs. slice_index xs w) same_d in omega (arith, m, o, e)

    -- and as much as before elsewhere
    pub even_now : (core_of d).out ≡ (core_of c).out → IsEven identity d
    even_now same_d v = elim (cases_eq v w) [
      | inl is ↦ subst (λ x. count_put identity (rings_to d) x ≡ count_back identity (rings_back d) x + slice_index (core_of d).out x) (sym is) here
      | inr other ↦
          let o : slice_index (core_of d).out v ≡ slice_index (core_of a).out v = ap (λ xs. slice_index xs v) same_d ∙ recalls.takes.out_others v other ∙ ap (λ xs. slice_index xs v) parted.out_same in
          put_same v ∙ even v ∙ sym (ap (λ x. count_back identity (rings_back a) v + x) o) ∙ ap (λ x. x + slice_index (core_of d).out v) (sym (back_same v other))
    ]
      where
        count_of_sent : (ps : List (Producer (Parcel L) Global AnyItems)) (v : ℕ) → count_put identity ps v ≡ sum_by (of_parcel identity (λ c. 1)) (slice_index_or (map (λ x. sent x) ps) v [])
        count_of_sent [] v = refl
        count_of_sent (x ∷ xs) zero = refl
        count_of_sent (x ∷ xs) (suc v) = count_of_sent xs v

        count_of_came : (ns : List (Consumer (Note L) Global AnyItems)) (v : ℕ) → count_back identity ns v ≡ sum_by (of_note identity (λ c. 1)) (received_at ns v)
        count_of_came [] v = refl
        count_of_came (x ∷ xs) zero = refl
        count_of_came (x ∷ xs) (suc v) = count_of_came xs v

        put_same : (v : ℕ) → count_put identity (rings_to d) v ≡ count_put identity (rings_to a) v
        put_same v = count_of_sent (rings_to d) v ∙ ap (λ xs. sum_by (of_parcel identity (λ c. 1)) (slice_index_or xs v [])) ends.went ∙ sym (count_of_sent (rings_to a) v)

        back_same : (v : ℕ) → v ≢ w → count_back identity (rings_back d) v ≡ count_back identity (rings_back a) v
        back_same v other = count_of_came (rings_back d) v ∙ ap (sum_by (of_note identity (λ c. 1))) (ends.others v other) ∙ sym (count_of_came (rings_back a) v)

        here : count_put identity (rings_to d) w ≡ count_back identity (rings_back d) w + slice_index (core_of d).out w
        here =
            let q = there (rings_to d) w (let e = ap length ends.rings.0 in let m = crew.as_many.0 in let i = number in omega (arith, e, m, i, length-map (rings_to d) ring_in, length-map (rings_to a) ring_in)) in
            let m = there (rings_back d) w (let e = ap length ends.rings.1 in let m = crew.as_many.1 in let i = number in omega (arith, e, m, i, length-map (rings_back d) ring_out, length-map (rings_back a) ring_out)) in
            let settled = settled_now may_serve may_leave may_ready may_init may_make identity factory listeners (length rs) w number p n parted.ended runs parted.out handed parted.promised parted.inward parted.outward parted.same to_p from_n ready_now more since_now told.1.2
            recalls.outcome recalls.as_left recalls.notes recalls.takes.went q.0 m.0 (sent_same q.0 q.1) (came_same m.0 m.1) in
            let balanced = settled.balanced (λ c. 1) in
            let put = at_place (λ x. sum_by (of_parcel identity (λ c. 1)) (sent x)) (rings_to d) w q.0 0 q.1 in
            let back = at_place (λ x. sum_by (of_note identity (λ c. 1)) (received x)) (rings_back d) w m.0 0 m.1 in
            let none = none_there_now same_d in omega (arith, balanced, put, back, none)

-- a worker that is neither in order nor retired, and has nothing out, may be replaced or retired
pub may_return_now : (s : Core) (w : ℕ) → w < length s.out → in_order s.order w ≡ false → set.contains s.retired w ≡ false → slice_index s.out w ≡ 0 → may_return s w ≡ true
may_return_now s w inside off kept none =
    let is_there : nat_lt w (length s.out) ≡ true = grind (arith, nat_tests) in
    let empty : (slice_index s.out w == 0) ≡ true = grind (arith, nat_tests) in
    rw (is_there, off, kept, empty) refl

-- one that is replaced is in order
pub placed_now : (w : ℕ) (s t : Core) (put : Bool) → may_return s w ≡ true → (put ≡ true → t ≡ step s (Replaced w)) → (put ≡ false → (t ≡ s) × (allowed s (Replaced w) ≡ false)) → in_order t.order w ≡ true
placed_now w s t true may put refused = ap (λ (k : Core). in_order k.order w) (put refl) ∙ in_order-push s.order w w ∙ ap (λ b. in_order s.order w || (b || false)) (same_is w) ∙ or_later (in_order s.order w) true refl
placed_now w s t false may put refused = absurd (true≢false (sym may ∙ (refused refl).1))

-- one that is retired is so
pub gone_now : {X : Type 0} (w : ℕ) (s t : Core) → may_return s w ≡ true → (allowed s (Retired w) ≡ true → (t ≡ step s (Retired w)) × X) → set.contains t.retired w ≡ true
gone_now w s t may retired = ap (λ (k : Core). set.contains k.retired w) (retired may).0 ∙ by_left (all_retired (record s { retired = set.insert s.retired w }))
    ∙ contains_inserted s.retired w w ∙ ap (λ b. b || set.contains s.retired w) (same_is w)
  where
    by_left : (b : Bool) → set.contains (cond b (let_go (record s { retired = set.insert s.retired w })) (record s { retired = set.insert s.retired w })).retired w ≡ set.contains (set.insert s.retired w) w
    by_left true = refl
    by_left false = refl

-- what a worker's place keeps where it is put last in the order, or is not
pub replaced_keeps : (w : ℕ) (s t : Core) (put : Bool) {X : Type 0} → (put ≡ true → t ≡ step s (Replaced w)) → (put ≡ false → (t ≡ s) × X)
    → (t.out ≡ s.out) × (t.waiting ≡ s.waiting) × (t.retired ≡ s.retired) × ((v : ℕ) → v ≢ w → in_order s.order v ≡ false → in_order t.order v ≡ false)
replaced_keeps w s t true put refused =
    let is = put refl in
    (ap (λ (k : Core). k.out) is, ap (λ (k : Core). k.waiting) is, ap (λ (k : Core). k.retired) is, λ v other off. off_replaced w s t v is other off)
replaced_keeps w s t false put refused =
    let is = (refused refl).0 in
    (ap (λ (k : Core). k.out) is, ap (λ (k : Core). k.waiting) is, ap (λ (k : Core). k.retired) is, λ v other off. ap (λ (k : Core). in_order k.order v) is ∙ off)

-- as much is out as before
pub same_total : (s t : Core) (room : ℕ) → t.out ≡ s.out → t.waiting ≡ s.waiting → sum s.out + held s.waiting ≤ room → sum t.out + held t.waiting ≤ room
same_total s t room out waiting fits = let o = ap sum out in let w = ap held waiting in omega (arith, o, w, fits)

-- the worker left the order, and its rings were looked at
pub keeps_left : {L : Type 0} (w : ℕ) (a a1 b : Acceptor L) → rings_to a1 ≡ rings_to a → rings_back a1 ≡ rings_back a → ((v : ℕ) → in_order (core_of a).order v ≡ false → in_order (core_of a1).order v ≡ false) → (core_of a1).retired ≡ (core_of a).retired
    → map ring_in (rings_to b) ≡ map ring_in (rings_to a1) → map ring_out (rings_back b) ≡ map ring_out (rings_back a1) → map (λ p. sent p) (rings_to b) ≡ map (λ p. sent p) (rings_to a1)
    → map (λ c. received c) (rings_back b) ≡ map (λ c. received c) (rings_back a1) → core_of b ≡ core_of a1 → KeepsOthers w a b
keeps_left w a a1 b same_in same_back off retired ins outs went came core = keeps_trans w a a1 b
    (keeps_rings w a a1 same_in same_back (λ v other. off v) (λ v other. ap (λ x. set.contains x v) retired))
    (keeps_looked w a1 b ins outs went came core)

pub came_left : {L : Type 0} (w : ℕ) (a a1 b : Acceptor L) → rings_back a1 ≡ rings_back a → map (λ c. received c) (rings_back b) ≡ map (λ c. received c) (rings_back a1) → received_at (rings_back b) w ≡ received_at (rings_back a) w
came_left w a a1 b same_back came = received_same (rings_back a1) (rings_back b) w came ∙ ap (λ ns. received_at ns w) same_back

-- one more was started
pub started_more : (before now : ℕ) → now ≡ risen before → min before (2 ^ 64 - 1) ≤ now
started_more before now is = omega (arith, is)

pub started_same : (before now : ℕ) → now ≡ before → min before (2 ^ 64 - 1) ≤ now
started_same before now is = omega (arith, is)

-- what was taken from a place of a list
pub at_taken : {X : Type 0} (xs : List X) (w : ℕ) (now : X) → w < length xs → now ≡ slice_index_or xs w now → slice_get xs w ≡ Some now
at_taken xs w now inside value = slice_get_read xs (length xs) w now refl inside value

-- where nothing was put anew, nothing changed
pub set_as_was : {X : Type 0} (xs : List X) (w : ℕ) (x : X) → slice_get xs w ≡ Some x → slice_set xs w x ≡ xs
set_as_was [] w x at = refl
set_as_was (y ∷ xs) zero x at = let is : y ≡ x = cc in ap (λ z. z ∷ xs) (sym is)
set_as_was (y ∷ xs) (suc w) x at = ap (λ zs. y ∷ zs) (set_as_was xs w x at)

-- what is at a place of workers, where none is or was put there, or one is in order
pub placed_nowhere : (P : Type 0) {X : Type 0} (xs : List (Option X)) (w : ℕ) → slice_get xs w ≡ Some None → IfSome (slice_get xs w) (λ now. is_some now ≡ true → P)
placed_nowhere P xs w at = subst (λ o. IfSome o (λ now. is_some now ≡ true → P)) (sym at) (λ some. absurd (cc))

pub placed_so : {X P : Type 0} (o : Option (Option X)) → P → IfSome o (λ now. is_some now ≡ true → P)
placed_so None holds = tt
placed_so (Some now) holds = λ some. holds

-- where all are retired, each is
each_gone : (s : Core) → all_retired s ≡ true → (v : ℕ) → v < length s.out → set.contains s.retired v ≡ true
each_gone s all v inside = either (set.contains s.retired v) refl
  where
    from_zero : (v : ℕ) → 0 + v ≡ v
    from_zero v = omega arith

    either : (x : Bool) → set.contains s.retired v ≡ x → set.contains s.retired v ≡ true
    either true is = is
    either false is = absurd (true≢false (sym all ∙ list_all_at (λ w. set.contains s.retired w) (range_with_len 0 (length s.out)) v 0 (subst (λ k. v < k) (sym (length-range_with_len 0 (length s.out))) inside)
        (ap (λ x. set.contains s.retired x) (get_or-range_with_len 0 (length s.out) v 0 inside ∙ from_zero v) ∙ is)))

-- and no place has a worker
pub none_runs : {F L E I : Type 0} (may_serve : F → ℕ → L → Ended L → Type 0) (may_leave : F → ℕ → L → L → Type 0) (may_ready : F → ℕ → Readiness E → Type 0) (may_init : F → ℕ → I → Type 0) (may_make : F → ℕ → Type 0)
    (identity : L → Identity) (factory : F) (listeners : ℕ) (d : Acceptor L) (ss : List (Option (Running (WorkerJob L F) (Handed L F (Departure E I)))))
    → Crew may_serve may_leave may_ready may_init may_make identity factory listeners d ss → all_retired (core_of d) ≡ true → sum_by vacancy ss ≡ length ss
none_runs {F = F} {L = L} {E = E} {I = I} may_serve may_leave may_ready may_init may_make identity factory listeners d ss crew all = all_vacant ss (λ w r at.
    let inside = slice_get_within ss w (Some r) at in
    let p = there (rings_to d) w (let m = crew.as_many.0 in omega (arith, m, inside)) in
    let n = there (rings_back d) w (let m = crew.as_many.1 in omega (arith, m, inside)) in
    let runs : Runs may_serve may_leave may_ready may_init may_make identity factory listeners (length ss) w (core_of d) (line_of p.0 n.0 r) = crew.each w p.0 n.0 (Some r) p.1 n.1 at in
    true≢false (sym (each_gone (core_of d) all w (let m = crew.as_many.0 in let k = d.workers.0 in omega (arith, m, k, inside))) ∙ runs.kept))

-- where all are retired, nothing is out
pub none_out : {F L E I : Type 0} (may_serve : F → ℕ → L → Ended L → Type 0) (may_leave : F → ℕ → L → L → Type 0) (may_ready : F → ℕ → Readiness E → Type 0) (may_init : F → ℕ → I → Type 0) (may_make : F → ℕ → Type 0)
    (identity : L → Identity) (factory : F) (listeners : ℕ) (d : Acceptor L) (ss : List (Option (Running (WorkerJob L F) (Handed L F (Departure E I)))))
    → Crew may_serve may_leave may_ready may_init may_make identity factory listeners d ss → IsEven identity d → all_retired (core_of d) ≡ true → sum (core_of d).out ≡ 0
none_out {F = F} {L = L} {E = E} {I = I} may_serve may_leave may_ready may_init may_make identity factory listeners d ss crew even all = all_zero (core_of d).out each
  where
    row_zero : (v : ℕ) (p : Producer (Parcel L) Global AnyItems) (n : Consumer (Note L) Global AnyItems) (r : Option (Running (WorkerJob L F) (Handed L F (Departure E I)))) → set.contains (core_of d).retired v ≡ true
        → slice_get (rings_to d) v ≡ Some p → slice_get (rings_back d) v ≡ Some n
        → by_job (Runs may_serve may_leave may_ready may_init may_make identity factory listeners (length ss) v (core_of d)) (IsRetired {E = E} {I = I} may_serve may_leave may_ready may_init may_make identity factory listeners (length ss) v (core_of d)) p n r
        → slice_index (core_of d).out v ≡ 0
    row_zero v p n (Some r) retired at_p at_n runs = absurd (true≢false (sym retired ∙ runs.kept))
    row_zero v p n None retired at_p at_n is =
        let balanced = is.settled.balanced (λ c. 1) in
        let put = at_place (λ x. sum_by (of_parcel identity (λ c. 1)) (sent x)) (rings_to d) v p 0 at_p in
        let back = at_place (λ x. sum_by (of_note identity (λ c. 1)) (received x)) (rings_back d) v n 0 at_n in
        let e = even v in omega (arith, balanced, put, back, e)

    in_row : (v : ℕ) → v < length (core_of d).out → v < length (rings_to d) → slice_index (core_of d).out v ≡ 0
    in_row v inside here =
        let p = there (rings_to d) v here in
        let n = there (rings_back d) v (let a = crew.as_many.0 in let b = crew.as_many.1 in omega (arith, a, b, here)) in
        let r = there ss v (let a = crew.as_many.0 in omega (arith, a, here)) in
        row_zero v p.0 n.0 r.0 (each_gone (core_of d) all v inside) p.1 n.1 (crew.each v p.0 n.0 r.0 p.1 n.1 r.1)

    no_row : (v : ℕ) → length (rings_to d) ≤ v → slice_index (core_of d).out v ≡ 0
    no_row v past =
        let put : count_put identity (rings_to d) v ≡ 0 = ap (λ o. option_map_or (λ x. sum_by (of_parcel identity (λ c. 1)) (sent x)) o 0) (slice_get_past (rings_to d) v past) in
        let e = even v in omega (arith, put, e)

    each : (v : ℕ) → slice_index (core_of d).out v ≡ 0
    each v = elim (cases_lt v (length (core_of d).out)) [
      | inl inside ↦ (elim (cases_lt v (length (rings_to d))) [
        | inl here ↦ in_row v inside here
        | inr past ↦ no_row v past
      ])
      | inr beyond ↦ get_or_past (core_of d).out v 0 beyond
    ]
