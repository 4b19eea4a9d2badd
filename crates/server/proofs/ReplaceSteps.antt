-- What becomes of a worker's place once its job is joined while the server accepts.
use Rattle.std.proofs.Common.{◌≡◌, ◌≢◌, ◌≤◌, ◌<◌, ◌++◌, ◌∷◌, [], ℕ, ◌+◌, ◌==◌, true, false, List, All, Contains, Option, None, Some, length, map, slice_get, sum_by, refl, sym, ◌∙◌, ap, arith, subst, inl, inr}
use Rattle.std.specs.Prelude.{◌||◌}
use Rattle.std.specs.List.{list_any}
use Rattle.std.specs.FinSet as set
use Rattle.std.proofs.lemmas.Bool.{cases_eq}
use Rattle.std.proofs.lemmas.Bool.Decides.{nat_tests}
use Rattle.std.proofs.lemmas.List.{append-nil, length-map}
use Rattle.std.proofs.lemmas.List.Folds.{list_any-append}
use Rattle.std.proofs.lemmas.List.Sums.{sum_by-append, sum_by-cons}
use Rattle.std.proofs.lemmas.List.Elements.{All-append, All-contains}
use Rattle.std.specs.declared.alloc.Global.{Global}
use Rattle.rtrb.specs.Ring.{ConsumerLooked, IsPair, ProducerLooked, SameConsumer, SameProducer, known_items, producer_capacity, received, sent}
use Rattle.rtrb.specs.declared.AnyItems.{AnyItems}
use Rattle.rtrb.specs.declared.consumer.Consumer.{Consumer}
use Rattle.rtrb.specs.declared.producer.Producer.{Producer}
use Rattle.service_core.specs.Link.{Identity}
use Rattle.service_core.specs.Meaning.{Readiness}
use Rattle.service_core.specs.declared.ended.Ended.{Ended}
use Rattle.server_acceptor.specs.Accepting.{received_at}
use Rattle.server_acceptor.specs.Acceptors.{core_of, notes_of as rings_back, parcels_of as rings_to}
use Rattle.server_acceptor.specs.Rings.{ring_in, ring_out}
use Rattle.server_acceptor.specs.declared.acceptor.Acceptor.{Acceptor}
use Rattle.server_core.proofs.Orders.{in_order-push}
use Rattle.server_core.specs.Core.{Core, in_order, step}
use Rattle.server_core.specs.declared.event.Event.TheVariants.{Replaced}
use Rattle.server_jobs.proofs.JoinSteps.{each_once}
use Rattle.server_jobs.specs.Cards.{Card, of_entry, of_note, of_parcel, of_waiting}
use Rattle.server_jobs.specs.Jobs.{job_of}
use Rattle.server_jobs.specs.Parcels.{is_stop}
use Rattle.server_jobs.specs.Returning.{entries_of, entry_of_note, entry_of_waiting, one_or_none}
use Rattle.server_jobs.specs.declared.handed.Handed.{Handed}
use Rattle.server_jobs.specs.declared.line.Joined.{Joined}
use Rattle.server_jobs.specs.declared.note.Note.{Note}
use Rattle.server_jobs.specs.declared.note.Note.TheVariants.{Ready, Back, Faulted}
use Rattle.server_jobs.specs.declared.parcel.Parcel.{Parcel}
use Rattle.server_jobs.specs.declared.parcel.Parcel.TheVariants.{Conn, Stop}
use Rattle.server_jobs.specs.declared.running.Running.{Running}
use Rattle.server_run.specs.Creating.{HasMeaningOf}
use Rattle.server_run.specs.Delivery.{IsLeftAs}
use Rattle.server_run.specs.Outcome.{is_stopped}
use Rattle.server_run.specs.Serving.{MayFault}
use Rattle.server_run.specs.declared.entry.Entry.{Entry}
use Rattle.server_run.specs.declared.outcome.Outcome.{Outcome}
use Rattle.server_worker.specs.Stops.{is_forced}
use Rattle.server.specs.Joining.{IsJoined}
use Rattle.server.specs.Replacing.{Crew, IsLeftHere, IsRetired, IsSettled, KeepsOthers, Runs, TakesBack, all_back, backs, entry_left}
use Rattle.server.specs.Retiring.{IsUnfaulted, MayEndEarly}
use Rattle.server.specs.Rows.{by_job, line_of}
use Rattle.server.specs.Starting.{RunsFor}
use Rattle.server.specs.Tales.{IsFrom, IsLostHere, IsTale}
use Rattle.server.proofs.BackSteps.{early, fault, from_left, from_owed, is_there, none_known, owed_unstopped, true_came, unstopped}
use Rattle.server.proofs.Bringing.{entries_weigh, note_weighs, waiting_weighs}
use Rattle.server.proofs.CrewSteps.{at_place}
use Rattle.server.proofs.Delivering.{ones}
use Rattle.server.proofs.Rows.{map_at, runs_kept}
use Rattle.server.proofs.TakeBackSteps.{received_same}
use Rattle.server.proofs.TaleSteps.{from_parcels, tales_back}
use Rattle.worker_job.specs.Jobs.{factory_of, listeners_of, notes_of, parcels_of}
use Rattle.worker_job.specs.Promise.{HandsOver}
use Rattle.worker_job.specs.declared.departure.Departure.{Departure}
use Rattle.worker_job.specs.declared.worker_job.WorkerJob.{WorkerJob}

-- one that was put last in the order
pub off_replaced : (w : ℕ) (s t : Core) (v : ℕ) → t ≡ step s (Replaced w) → v ≢ w → in_order s.order v ≡ false → in_order t.order v ≡ false
off_replaced w s t v is other off =
    let unlike : (w == v) ≡ false = grind (arith, nat_tests) in
    ap (λ (k : Core). in_order k.order v) is ∙ in_order-push s.order w v ∙ ap (λ b. b || ((w == v) || false)) off ∙ ap (λ b. b || false) unlike

-- ---- the other workers
module _ {L : Type 0} (w : ℕ) where
  pub keeps_trans : (a b c : Acceptor L) → KeepsOthers w a b → KeepsOthers w b c → KeepsOthers w a c
  keeps_trans a b c p q = record {
    rings = (q.rings.0 ∙ p.rings.0, q.rings.1 ∙ p.rings.1);
    went = q.went ∙ p.went;
    others = λ v other. q.others v other ∙ p.others v other;
    off = λ v other off. q.off v other (p.off v other off);
    retired = λ v other. q.retired v other ∙ p.retired v other;
  }

  -- the rings and what went over them stay
  pub keeps_rings : (a b : Acceptor L) → rings_to b ≡ rings_to a → rings_back b ≡ rings_back a → ((v : ℕ) → v ≢ w → in_order (core_of a).order v ≡ false → in_order (core_of b).order v ≡ false)
      → ((v : ℕ) → v ≢ w → set.contains (core_of b).retired v ≡ set.contains (core_of a).retired v) → KeepsOthers w a b
  keeps_rings a b ins outs off retired = record {
    rings = (ap (map ring_in) ins, ap (map ring_out) outs);
    went = ap (map (λ p. sent p)) ins;
    others = λ v other. ap (λ ns. received_at ns v) outs;
    off = off;
    retired = retired;
  }

  pub keeps_looked : (a b : Acceptor L) → map ring_in (rings_to b) ≡ map ring_in (rings_to a) → map ring_out (rings_back b) ≡ map ring_out (rings_back a) → map (λ p. sent p) (rings_to b) ≡ map (λ p. sent p) (rings_to a)
      → map (λ c. received c) (rings_back b) ≡ map (λ c. received c) (rings_back a) → core_of b ≡ core_of a → KeepsOthers w a b
  keeps_looked a b ins outs went came core = record {
    rings = (ins, outs);
    went = went;
    others = λ v other. received_same (rings_back a) (rings_back b) v came;
    off = λ v other off. ap (λ (s : Core). in_order s.order v) core ∙ off;
    retired = λ v other. ap (λ (s : Core). set.contains s.retired v) core;
  }

  pub keeps_taken : (a b : Acceptor L) (p q : Producer (Note L) Global AnyItems) (es : List (Entry L)) → TakesBack a b w p q es → KeepsOthers w a b
  keeps_taken a b p q es takes = record {
    rings = takes.rings;
    went = takes.rest.sent;
    others = takes.others;
    off = λ v other off. ap (λ order. in_order order v) takes.order ∙ off;
    retired = λ v other. ap (λ r. set.contains r v) takes.retired;
  }

-- the whole: each other place is as it was, and this one is so
module _ {F L E I : Type 0} (may_serve : F → ℕ → L → Ended L → Type 0) (may_leave : F → ℕ → L → L → Type 0) (may_ready : F → ℕ → Readiness E → Type 0) (may_init : F → ℕ → I → Type 0) (may_make : F → ℕ → Type 0)
    (identity : L → Identity) (factory : F) (listeners : ℕ) where
  abbrev Runner : Type 0
  Runner = Running (WorkerJob L F) (Handed L F (Departure E I))

  abbrev Stands : ℕ → ℕ → Core → Producer (Parcel L) Global AnyItems → Consumer (Note L) Global AnyItems → Option (Running (WorkerJob L F) (Handed L F (Departure E I))) → Type 0
  Stands workers w core p n r = by_job (Runs may_serve may_leave may_ready may_init may_make identity factory listeners workers w core) (IsRetired {E = E} {I = I} may_serve may_leave may_ready may_init may_make identity factory listeners workers w core) p n r

  module _ (w : ℕ) (a b : Acceptor L) (keeps : KeepsOthers w a b) where
    pub sent_at : (v : ℕ) (p q : Producer (Parcel L) Global AnyItems) → slice_get (rings_to a) v ≡ Some p → slice_get (rings_to b) v ≡ Some q → sent q ≡ sent p
    sent_at v p q at_p at_q =
        let x = map_at (λ r. sent r) (rings_to a) (rings_to b) v q keeps.went at_q in
        let same : Some x.0 ≡ Some p = sym x.1 ∙ at_p in
        let is : x.0 ≡ p = cc in x.2 ∙ ap (λ r. sent r) is

    came_at : (v : ℕ) → v ≢ w → (n m : Consumer (Note L) Global AnyItems) → slice_get (rings_back a) v ≡ Some n → slice_get (rings_back b) v ≡ Some m → received m ≡ received n
    came_at v other n m at_n at_m = sym (at_place (λ c. received c) (rings_back b) v m [] at_m) ∙ keeps.others v other ∙ at_place (λ c. received c) (rings_back a) v n [] at_n

    beside : (workers v : ℕ) → v ≢ w → (p q : Producer (Parcel L) Global AnyItems) (n m : Consumer (Note L) Global AnyItems) (r : Option (Running (WorkerJob L F) (Handed L F (Departure E I))))
        → ring_in q ≡ ring_in p → ring_out m ≡ ring_out n → sent q ≡ sent p → received m ≡ received n → Stands workers v (core_of a) p n r → Stands workers v (core_of b) q m r
    beside workers v other p q n m (Some r) ins outs went came stands = record {
      runs = runs_kept may_serve may_leave may_ready may_init may_make identity workers factory listeners p q n m r ins outs stands.runs;
      more = stands.more;
      since = came ∙ stands.since;
      kept = keeps.retired v other ∙ stands.kept;
    }
    beside workers v other p q n m None ins outs went came stands = record {
      settled = record {
        balanced = λ h. ap (sum_by (of_parcel identity h)) went ∙ stands.settled.balanced h ∙ sym (ap (sum_by (of_note identity h)) came);
        told = subst (λ ns. All (IsTale workers (MayFault (may_ready factory) (may_init factory) listeners) (may_serve factory) (may_leave factory) (may_make factory) listeners (sent q)) ns) (sym came)
            (subst (λ ps. All (IsTale workers (MayFault (may_ready factory) (may_init factory) listeners) (may_serve factory) (may_leave factory) (may_make factory) listeners ps) (received n)) (sym went) stands.settled.told);
      };
      off = keeps.off v other stands.off;
      gone = keeps.retired v other ∙ stands.gone;
      makes = stands.makes;
      fault = stands.fault;
    }

    module _ (rs ss : List (Option (Running (WorkerJob L F) (Handed L F (Departure E I))))) (as_many : length ss ≡ length rs) (elsewhere : (v : ℕ) → v ≢ w → slice_get ss v ≡ slice_get rs v)
        (crew : Crew may_serve may_leave may_ready may_init may_make identity factory listeners a rs)
        (here : (p : Producer (Parcel L) Global AnyItems) (n : Consumer (Note L) Global AnyItems) (r : Option (Running (WorkerJob L F) (Handed L F (Departure E I))))
        → slice_get (rings_to b) w ≡ Some p → slice_get (rings_back b) w ≡ Some n → slice_get ss w ≡ Some r → Stands (length rs) w (core_of b) p n r) where
      one : (v : ℕ) (q : Producer (Parcel L) Global AnyItems) (m : Consumer (Note L) Global AnyItems) (r : Option (Running (WorkerJob L F) (Handed L F (Departure E I))))
          → slice_get (rings_to b) v ≡ Some q → slice_get (rings_back b) v ≡ Some m → slice_get ss v ≡ Some r → Stands (length rs) v (core_of b) q m r
      one v q m r at_q at_m at_r = elim (cases_eq v w) [
        | inl same ↦ subst (λ x. Stands (length rs) x (core_of b) q m r) (sym same)
            (here q m r (ap (slice_get (rings_to b)) (sym same) ∙ at_q) (ap (slice_get (rings_back b)) (sym same) ∙ at_m) (ap (slice_get ss) (sym same) ∙ at_r))
        | inr other ↦
            let p = map_at ring_in (rings_to a) (rings_to b) v q keeps.rings.0 at_q in
            let n = map_at ring_out (rings_back a) (rings_back b) v m keeps.rings.1 at_m in
            beside (length rs) v other p.0 q n.0 m r p.2 n.2 (sent_at v p.0 q p.1 at_q) (came_at v other n.0 m n.1 at_m) (crew.each v p.0 n.0 r p.1 n.1 (sym (elsewhere v other) ∙ at_r))
      ]

      pub crew_after : Crew may_serve may_leave may_ready may_init may_make identity factory listeners b ss
      crew_after = record {
        as_many = (
          (let e = ap length keeps.rings.0 in let m = crew.as_many.0 in omega (arith, e, m, as_many, length-map (rings_to b) ring_in, length-map (rings_to a) ring_in)),
          (let e = ap length keeps.rings.1 in let m = crew.as_many.1 in omega (arith, e, m, as_many, length-map (rings_back b) ring_out, length-map (rings_back a) ring_out)),
        );
        each = λ v q m r at_q at_m at_r. subst (λ n. Stands n v (core_of b) q m r) (sym as_many) (one v q m r at_q at_m at_r);
      }

  -- ---- the place of the worker that was joined
  module _ (workers : ℕ) (w : ℕ) (number : w < workers) (p : Producer (Parcel L) Global AnyItems) (n : Consumer (Note L) Global AnyItems) (r : Running (WorkerJob L F) (Handed L F (Departure E I)))
      (runs : RunsFor may_serve may_leave may_ready may_init may_make identity workers factory listeners (line_of p n r))
      (out handed : Handed L F (Departure E I)) (promised : HandsOver identity may_serve may_leave may_ready may_init may_make (job_of r) out)
      (looked_in : ConsumerLooked out.parcels handed.parcels) (looked_out : ProducerLooked out.notes handed.notes)
      (same : (handed.factory ≡ out.factory) × (handed.owed ≡ out.owed) × (handed.rest ≡ out.rest) × (handed.departure ≡ out.departure))
      (to_it : received handed.parcels ++ known_items handed.parcels ≡ sent p) (from_it : received n ++ known_items n ≡ sent handed.notes)
      (ready : Contains (received n) Ready) (more : List (Note L)) (since : received n ≡ sent (notes_of (job_of r)) ++ more) (faulted : Contains more Faulted) where
    abbrev Fault : Type 0
    Fault = MayFault (may_ready factory) (may_init factory) listeners

    abbrev all : Joined L F (Departure E I)
    all = record { parcels = p; notes = n; handed = handed }

    abbrev it : IsJoined {D = Departure E I} identity (λ job out. HandsOver identity may_serve may_leave may_ready may_init may_make job out) (λ all. all) (line_of p n r)
    it = record {
      joined = record { parcels = p; notes = n; handed = handed };
      hands = record { out = out; promised = promised; inward = looked_in; outward = looked_out; same = same };
      same_sent = refl;
      same_received = refl;
      to_it = to_it;
      from_it = from_it;
      once = each_once identity (parcels_of (job_of r)) (notes_of (job_of r)) out (record { parcels = p; notes = n; handed = handed }) promised.accounts runs.balanced looked_in.1 to_it looked_out.1 from_it same.1 same.2;
    }

    pub fault_there : Fault
    fault_there = fault may_serve may_leave may_ready may_init may_make identity workers factory listeners (line_of p n r) runs it ready more since faulted

    pub early_there : IsUnfaulted handed.departure → (1 ≤ length (sent (notes_of (job_of r)))) × ((error : Option (ℕ × I)) × MayEndEarly (may_init factory) listeners error)
    early_there unfaulted = early may_serve may_leave may_ready may_init may_make identity workers factory listeners (line_of p n r) runs it ready more since faulted (subst (λ d. IsUnfaulted d) same.3 unfaulted)

    none_there : known_items n ≡ []
    none_there = none_known may_serve may_leave may_ready may_init may_make identity workers factory listeners (line_of p n r) runs it ready more since faulted

    -- all that went over the ring back was taken
    pub all_taken : received n ≡ sent handed.notes
    all_taken = sym (append-nil (received n)) ∙ ap (λ ns. received n ++ ns) (sym none_there) ∙ from_it

    pub makes_there : (token : ℕ) → token < listeners → may_make factory token
    makes_there = All-contains (IsTale workers Fault (may_serve factory) (may_leave factory) (may_make factory) listeners (sent p)) (received n) Ready
        (true_came may_serve may_leave may_ready may_init may_make identity workers factory listeners (line_of p n r) runs it) ready

    left_weighs : (h : Card → ℕ) (o : Outcome) (x : Parcel L) → sum_by (of_entry identity h) (one_or_none (entry_left o x)) ≡ of_parcel identity h x
    left_weighs h o (Conn s t k link) = omega arith
    left_weighs h o (Stop graceful) = refl

    back_weighs : (h : Card → ℕ) (o : Outcome) → sum_by (of_entry identity h) (all_back o w handed)
        ≡ sum_by (of_note identity h) handed.owed.items + (sum_by (of_waiting identity h) handed.rest.items + sum_by (of_parcel identity h) (known_items handed.parcels))
    back_weighs h o =
        let a = entries_weigh identity h entry_of_note (of_note identity h) (note_weighs identity h) handed.owed.items in
        let b = entries_weigh identity h (entry_of_waiting w) (of_waiting identity h) (waiting_weighs identity h w) handed.rest.items in
        let c = entries_weigh identity h (entry_left o) (of_parcel identity h) (left_weighs h o) (known_items handed.parcels) in
        let d = sum_by-append (of_entry identity h) (entries_of entry_of_note handed.owed.items) (entries_of (entry_of_waiting w) handed.rest.items ++ entries_of (entry_left o) (known_items handed.parcels)) in
        let e = sum_by-append (of_entry identity h) (entries_of (entry_of_waiting w) handed.rest.items) (entries_of (entry_left o) (known_items handed.parcels)) in
        omega (arith, a, b, c, d, e)

    -- what was put on the ring came back, or comes back now
    balance : (h : Card → ℕ) (o : Outcome) → sum_by (of_parcel identity h) (sent p) ≡ sum_by (of_note identity h) (received n) + sum_by (of_entry identity h) (all_back o w handed)
    balance h o =
        let once = it.once h in
        let none = ap (sum_by (of_note identity h)) none_there in
        let b = back_weighs h o in omega (arith, once, none, b)

    -- as many as are out
    pub many_there : (o : Outcome) (put back out_now : ℕ) → put ≡ sum_by (of_parcel identity (λ c. 1)) (sent p) → back ≡ sum_by (of_note identity (λ c. 1)) (received n) → put ≡ back + out_now → length (all_back o w handed) ≡ out_now
    many_there o put back out_now is too even =
        let b : sum_by (of_parcel identity (λ c. 1)) (sent p) ≡ sum_by (of_note identity (λ c. 1)) (received n) + sum_by (λ (e : Entry L). 1) (all_back o w handed) = balance (λ c. 1) o in
        let many = ones (all_back o w handed) in omega (arith, b, many, is, too, even)

    pub owed_calm : All (λ e. is_stopped e.outcome ≡ true → ⊥) (entries_of entry_of_note handed.owed.items)
    owed_calm = owed_unstopped may_serve may_leave may_ready may_init may_make identity workers factory listeners (line_of p n r) runs it ready more since faulted

    pub place_there : 0 < producer_capacity handed.notes
    place_there = subst (λ k. 0 < k) (sym (looked_out.0.1 ∙ promised.accounts.same_outward.1)) runs.place

    as_left : (o : Outcome) → IsLeftHere w o → ((token : ℕ) (link : L) → IsLeftAs (may_leave factory token) link link o) × (is_forced o ≡ false) × IsLostHere workers Fault o
    as_left o (inl is) = subst (λ x. ((token : ℕ) (link : L) → IsLeftAs (may_leave factory token) link link x) × (is_forced x ≡ false) × IsLostHere workers Fault x) (sym is) ((λ token link. refl), refl, tt)
    as_left o (inr is) = subst (λ x. ((token : ℕ) (link : L) → IsLeftAs (may_leave factory token) link link x) × (is_forced x ≡ false) × IsLostHere workers Fault x) (sym is) ((λ token link. inl refl), refl, (number, fault_there))

    from_back : (o : Outcome) → IsLeftHere w o → All (IsFrom workers Fault (may_serve factory) (may_leave factory) (sent p)) (all_back o w handed)
    from_back o left =
        let P = IsFrom workers Fault (may_serve factory) (may_leave factory) (sent p) in
        let so = as_left o left in
        All-append P (entries_of entry_of_note handed.owed.items) (entries_of (entry_of_waiting w) handed.rest.items ++ entries_of (entry_left o) (known_items handed.parcels))
        (from_owed may_serve may_leave may_ready may_init may_make identity workers factory listeners (line_of p n r) runs it)
        (All-append P (entries_of (entry_of_waiting w) handed.rest.items) (entries_of (entry_left o) (known_items handed.parcels))
        (from_left may_serve may_leave may_ready may_init may_make identity workers factory listeners (line_of p n r) runs it w number fault_there)
        (from_parcels workers Fault (may_serve factory) (may_leave factory) (sent p) o so.0 so.1 so.2 (known_items handed.parcels)
        (is_there may_serve may_leave may_ready may_init may_make identity workers factory listeners (line_of p n r) runs it)))

    -- once all that was taken back
    module _ (o : Outcome) (left : IsLeftHere w o) (notes : Producer (Note L) Global AnyItems) (went : sent notes ≡ sent handed.notes ++ backs (all_back o w handed)) where
      backs_weigh : (h : Card → ℕ) (es : List (Entry L)) → sum_by (of_note identity h) (backs es) ≡ sum_by (of_entry identity h) es
      backs_weigh h [] = refl
      backs_weigh h (e ∷ es) = let a = sum_by-cons (of_note identity h) (Back e) (backs es) in let b = sum_by-cons (of_entry identity h) e es in let c = backs_weigh h es in omega (arith, a, b, c)

      balanced_now : (h : Card → ℕ) → sum_by (of_parcel identity h) (sent p) ≡ sum_by (of_note identity h) (sent notes)
      balanced_now h =
          let b = balance h o in
          let a = ap (sum_by (of_note identity h)) went in
          let c = sum_by-append (of_note identity h) (sent handed.notes) (backs (all_back o w handed)) in
          let d = backs_weigh h (all_back o w handed) in
          let e = ap (sum_by (of_note identity h)) all_taken in omega (arith, a, b, c, d, e)

      told_now : All (IsTale workers Fault (may_serve factory) (may_leave factory) (may_make factory) listeners (sent p)) (sent notes)
      told_now = subst (All (IsTale workers Fault (may_serve factory) (may_leave factory) (may_make factory) listeners (sent p))) (ap (λ ns. ns ++ backs (all_back o w handed)) all_taken ∙ sym went)
          (All-append (IsTale workers Fault (may_serve factory) (may_leave factory) (may_make factory) listeners (sent p)) (received n) (backs (all_back o w handed))
          (true_came may_serve may_leave may_ready may_init may_make identity workers factory listeners (line_of p n r) runs it)
          (tales_back workers Fault (may_serve factory) (may_leave factory) (sent p) (may_make factory) listeners (all_back o w handed) (from_back o left)))

      pub settled_now : (q : Producer (Parcel L) Global AnyItems) (m : Consumer (Note L) Global AnyItems) → sent q ≡ sent p → received m ≡ sent notes
          → IsSettled identity workers (MayFault (may_ready factory) (may_init factory) listeners) (may_serve factory) (may_leave factory) (may_make factory) listeners q m
      settled_now q m same_sent came = record {
        balanced = λ h. ap (sum_by (of_parcel identity h)) same_sent ∙ balanced_now h ∙ sym (ap (sum_by (of_note identity h)) came);
        told = subst (λ ns. All (IsTale workers Fault (may_serve factory) (may_leave factory) (may_make factory) listeners (sent q)) ns) (sym came)
            (subst (λ ps. All (IsTale workers Fault (may_serve factory) (may_leave factory) (may_make factory) listeners ps) (sent notes)) (sym same_sent) told_now);
      }

      -- a job over the same rings, on which nothing is left
      module _ (job : WorkerJob L F) (ends_in : SameConsumer handed.parcels (parcels_of job)) (came : received (parcels_of job) ≡ received handed.parcels ++ known_items handed.parcels)
          (ends_out : SameProducer handed.notes (notes_of job)) (same_notes : sent (notes_of job) ≡ sent notes) (calm : list_any is_stop (known_items handed.parcels) ≡ false)
          (same_factory : factory_of job ≡ handed.factory) (as_many : listeners_of job ≡ listeners) where
        all_came : received (parcels_of job) ≡ sent p
        all_came = came ∙ to_it

        calm_all : list_any is_stop (received (parcels_of job)) ≡ false
        calm_all = ap (list_any is_stop) came ∙ list_any-append is_stop (received handed.parcels) (known_items handed.parcels)
            ∙ ap (λ b. b || list_any is_stop (known_items handed.parcels)) (ap (list_any is_stop) looked_in.1 ∙ unstopped may_serve may_leave may_ready may_init may_make identity workers factory listeners (line_of p n r) runs it ready more since faulted) ∙ calm

        pub runs_anew : (q : Producer (Parcel L) Global AnyItems) (m : Consumer (Note L) Global AnyItems) (s : Running (WorkerJob L F) (Handed L F (Departure E I))) → job_of s ≡ job → ring_in q ≡ ring_in p → IsPair (notes_of job) m
            → RunsFor may_serve may_leave may_ready may_init may_make identity workers factory listeners (line_of q m s)
        runs_anew q m s is ins from = record {
          to_it = subst (λ j. IsPair q (parcels_of j)) (sym is) (
            ends_in.0.0 ∙ looked_in.0.0.0 ∙ promised.accounts.same_inward.0.0 ∙ runs.to_it.0 ∙ sym (ap (λ x. x.0) ins),
            ends_in.0.1 ∙ looked_in.0.0.1 ∙ promised.accounts.same_inward.0.1 ∙ runs.to_it.1 ∙ sym (ap (λ x. x.1.0) ins),
            ends_in.0.2 ∙ looked_in.0.0.2 ∙ promised.accounts.same_inward.0.2 ∙ runs.to_it.2 ∙ sym (ap (λ x. x.1.1.0) ins),
            ends_in.0.3 ∙ looked_in.0.0.3 ∙ promised.accounts.same_inward.0.3 ∙ runs.to_it.3 ∙ sym (ap (λ x. x.1.1.1) ins),
          );
          from_it = subst (λ j. IsPair (notes_of j) m) (sym is) from;
          place = subst (λ j. 0 < producer_capacity (notes_of j)) (sym is) (subst (λ k. 0 < k) (sym ends_out.1) place_there);
          balanced = subst (λ j. (h : Card → ℕ) → sum_by (of_parcel identity h) (received (parcels_of j)) ≡ sum_by (of_note identity h) (sent (notes_of j))) (sym is)
              (λ h. ap (sum_by (of_parcel identity h)) all_came ∙ balanced_now h ∙ sym (ap (sum_by (of_note identity h)) same_notes));
          told = subst (λ j. All (IsTale workers Fault (may_serve factory) (may_leave factory) (may_make factory) listeners (received (parcels_of j))) (sent (notes_of j))) (sym is)
              (subst (λ ps. All (IsTale workers Fault (may_serve factory) (may_leave factory) (may_make factory) listeners ps) (sent (notes_of job))) (sym all_came)
              (subst (λ ns. All (IsTale workers Fault (may_serve factory) (may_leave factory) (may_make factory) listeners (sent p)) ns) (sym same_notes) told_now));
          unstopped = ap (λ j. list_any is_stop (received (parcels_of j))) is ∙ calm_all;
          began = inr fault_there;
          means = subst (λ f. HasMeaningOf may_serve may_leave may_ready may_init may_make factory f) (sym (ap factory_of is ∙ same_factory ∙ same.0 ∙ promised.same_factory)) runs.means;
          as_many = ap listeners_of is ∙ as_many;
        }
