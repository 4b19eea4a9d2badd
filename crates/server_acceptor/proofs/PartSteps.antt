-- That a worker leaves the order, comes back into it, or is retired.
use Rattle.std.proofs.Common.{◌≡◌, ◌≢◌, ◌^◌, ◌<◌, ◌∷◌, [], ℕ, Bool, true, false, true≢false, cond, List, Option, None, refl, sym, ◌∙◌, ap, arith, subst, inl, inr, nat_lt, Some}
use Rattle.std.specs.Prelude.{◌==◌, ◌&&◌, ◌||◌, count_by, is_some, nat_eq, not, slice_index}
use Rattle.std.specs.Cmp.{nat_eq_equiv}
use Rattle.std.specs.FinSet as set
use Rattle.std.specs.List.{AllByRecursion, IsDistinct}
use Rattle.std.proofs.lemmas.Bool.{cases_eq}
use Rattle.std.proofs.lemmas.Bool.Decides.{nat_tests}
use Rattle.std.proofs.lemmas.Map.Keys.{IsDistinct-IsPermutation, IsDistinct-head}
use Rattle.service_core.specs.Link.{Identity}
use Rattle.server_core.proofs.Orders.{and_right, in_order-push, in_order-without, permuted, true_or}
use Rattle.server_core.specs.Core.{Core, IsKept, all_retired, allowed, held, in_order, is_worker, let_go, step, without}
use Rattle.server_core.specs.declared.event.Event.{Event}
use Rattle.server_core.specs.declared.event.Event.TheVariants.{Faulted, Replaced, Retired}
use Rattle.server_run.specs.Done.{Adds}
use Rattle.server_run.specs.Listener.{Mark}
use Rattle.server_run.specs.declared.entry.Entry.{Entry}
use Rattle.server_run.specs.declared.outcome.Outcome.TheVariants.{Lost, Stopped}
use Rattle.server_acceptor.specs.Accepting.{Acts, is_back, is_failed, is_got, is_sent}
use Rattle.server_acceptor.specs.Commanding.{KeepsBeside, gone_of}
use Rattle.server_acceptor.specs.declared.acceptor.Acceptor.{Acceptor}
use Rattle.server_acceptor.proofs.AskSteps.{ruled_kept}
use Rattle.server_acceptor.proofs.CommandSteps.{held_none}
use Rattle.server_acceptor.proofs.CoreSteps.{moves_acts}
use Rattle.server_acceptor.proofs.Giving.{adds_none}
use Rattle.server_acceptor.proofs.PlaceSteps.{IsPatient, IsRuled, contains_inserted, contains_removed, patient_kept}

-- ---- the order without a worker
none_there : (order : List ℕ) (w : ℕ) → AllByRecursion (λ y. nat_eq w y ≡ false) order → in_order order w ≡ false
none_there [] w all = refl
none_there (x ∷ order) w all =
    let here : (x == w) ≡ false = nat_eq_equiv.symm x w ∙ all.0 in
    rw here (none_there order w all.1)

pub out_without : (order : List ℕ) (w : ℕ) → in_order order w ≡ true → IsDistinct nat_eq order → in_order (without order w) w ≡ false
out_without order w there distinct =
    none_there (without order w) w (IsDistinct-head nat_eq w (without order w) (IsDistinct-IsPermutation nat_eq nat_eq_equiv.symm order (w ∷ without order w) (permuted order w there) distinct))

-- a worker that may end by a fault is in order
pub faulted_there : (s : Core) (w : ℕ) → allowed s (Faulted w) ≡ true → in_order s.order w ≡ true
faulted_there s w may = and_right (is_worker s w) (in_order s.order w) may

pub left_order : (s t : Core) (w : ℕ) → IsKept s → allowed s (Faulted w) ≡ true → t ≡ step s (Faulted w) → in_order t.order w ≡ false
left_order s t w kept may is = ap (λ (u : Core). in_order u.order w) is ∙ out_without s.order w (faulted_there s w may) kept.distinct

-- one that is not in order stays so
pub off_still : (s t : Core) (w v : ℕ) → allowed s (Faulted w) ≡ true → t ≡ step s (Faulted w) → in_order s.order v ≡ false → in_order t.order v ≡ false
off_still s t w v may is off = ap (λ (u : Core). in_order u.order v) is ∙ by_either (w == v) (in_order (without s.order w) v) (sym (in_order-without s.order w v (faulted_there s w may)) ∙ off)
  where
    by_either : (p q : Bool) → (p || q) ≡ false → q ≡ false
    by_either true q is = absurd (true≢false is)
    by_either false q is = is

-- the rule of the limit stays for those that are left
pub ruled_left : (s t : Core) (limit w : ℕ) → IsKept s → allowed s (Faulted w) ≡ true → IsRuled s limit → t ≡ step s (Faulted w) → IsRuled t limit
ruled_left s t limit w kept may ruled is = subst (λ u. IsRuled u limit) (sym is) still
  where
    there : in_order s.order w ≡ true
    there = faulted_there s w may

    still : IsRuled (step s (Faulted w)) limit
    still v i =
        let differ : v ≢ w = λ same. true≢false (sym i ∙ ap (in_order (without s.order w)) same ∙ out_without s.order w there kept.distinct) in
        let unlike : nat_eq v w ≡ false = grind (arith, nat_tests) in
        contains_removed s.free w v ∙ ap (λ b. not b && set.contains s.free v) unlike ∙ ruled v (in_order-without s.order w v there ∙ true_or (w == v) (in_order (without s.order w) v) i)

-- ---- a worker that comes back
returns_none : (s : Core) (w : ℕ) → allowed s (Replaced w) ≡ true → slice_index s.out w ≡ 0
returns_none s w may = let e : (slice_index s.out w == 0) ≡ true = and_right (is_worker s w && not (in_order s.order w) && not (set.contains s.retired w)) (slice_index s.out w == 0) may in grind (arith, nat_tests)

pub ruled_replaced : (s t : Core) (limit w : ℕ) → 0 < limit → allowed s (Replaced w) ≡ true → IsRuled s limit → t ≡ step s (Replaced w) → IsRuled t limit
ruled_replaced s t limit w some may ruled is = subst (λ u. IsRuled u limit) (sym is) (λ v i. contains_inserted s.free w v ∙ elim (cases_eq v w) [
  | inl same ↦
      let like : nat_eq v w ≡ true = grind (arith, nat_tests) in
      let fits : nat_lt 0 limit ≡ true = grind (arith, nat_tests) in
      ap (λ b. b || set.contains s.free v) like ∙ sym fits ∙ ap (λ n. nat_lt n limit) (sym (returns_none s w may) ∙ ap (slice_index s.out) (sym same))
  | inr differ ↦
      let unlike : nat_eq v w ≡ false = grind (arith, nat_tests) in
      let other : (w == v) ≡ false = nat_eq_equiv.symm w v ∙ unlike in
      let i2 = sym (in_order-push s.order w v) ∙ i in
      ap (λ b. b || set.contains s.free v) unlike ∙ ruled v (was_there (in_order s.order v) (w == v) other i2)
])
  where
    was_there : (p q : Bool) → q ≡ false → (p || (q || false)) ≡ true → p ≡ true
    was_there true q none is = refl
    was_there false true none is = absurd (true≢false none)
    was_there false false none is = is

-- ---- a worker that is retired
module _ {X : Type 0} (f : Core → X) (kept : (s : Core) → f (let_go s) ≡ f s) (apart : (s : Core) (w : ℕ) → f (record s { retired = set.insert s.retired w }) ≡ f s) where
  gone_or_not : (b : Bool) (s : Core) → f (cond b (let_go s) s) ≡ f s
  gone_or_not true s = kept s
  gone_or_not false s = refl

  pub retired_same : (s : Core) (w : ℕ) → f (step s (Retired w)) ≡ f s
  retired_same s w = gone_or_not (all_retired (record s { retired = set.insert s.retired w })) (record s { retired = set.insert s.retired w }) ∙ apart s w

-- the rule of the limit, and what became of the listeners, stay
pub ruled_retired : (s t : Core) (limit w : ℕ) → IsRuled s limit → t ≡ step s (Retired w) → IsRuled t limit
ruled_retired s t limit w ruled is = ruled_kept s t limit
    (ap (λ (k : Core). k.order) is ∙ retired_same (λ (k : Core). k.order) (λ k. refl) (λ k v. refl) s w)
    (ap (λ (k : Core). k.free) is ∙ retired_same (λ (k : Core). k.free) (λ k. refl) (λ k v. refl) s w)
    (ap (λ (k : Core). k.out) is ∙ retired_same (λ (k : Core). k.out) (λ k. refl) (λ k v. refl) s w) ruled

pub patient_retired : (s t : Core) (limit w : ℕ) → IsPatient s limit → t ≡ step s (Retired w) → IsPatient t limit
patient_retired s t limit w patient is = patient_kept s t limit
    (ap (λ (k : Core). k.ended) is ∙ retired_same (λ (k : Core). k.ended) (λ k. refl) (λ k v. refl) s w)
    (ap (λ (k : Core). k.failures) is ∙ retired_same (λ (k : Core). k.failures) (λ k. refl) (λ k v. refl) s w) patient

-- only that one is retired more
pub retired_others : (s t : Core) (w v : ℕ) → t ≡ step s (Retired w) → v ≢ w → set.contains t.retired v ≡ set.contains s.retired v
retired_others s t w v is other =
    let unlike : nat_eq v w ≡ false = grind (arith, nat_tests) in
    ap (λ (k : Core). set.contains k.retired v) is ∙ by_left (all_retired (record s { retired = set.insert s.retired w })) ∙ contains_inserted s.retired w v ∙ ap (λ b. b || set.contains s.retired v) unlike
  where
    by_left : (b : Bool) → set.contains (cond b (let_go (record s { retired = set.insert s.retired w })) (record s { retired = set.insert s.retired w })).retired v ≡ set.contains (set.insert s.retired w) v
    by_left true = refl
    by_left false = refl

-- after a stop nothing waits, so nothing is let go
pub retired_stopped : (s t : Core) (w : ℕ) → IsKept s → t ≡ step s (Retired w) → is_some t.stopping ≡ true → t.waiting ≡ s.waiting
retired_stopped s t w kept is stops = ap (λ (k : Core). k.waiting) is ∙ by_left (all_retired (record s { retired = set.insert s.retired w }))
  where
    nothing : (o : Option ℕ) → held o ≡ 0 → o ≡ None
    nothing None none = refl
    nothing (Some t) none = absurd (omega (arith, none))

    by_left : (b : Bool) → (cond b (let_go (record s { retired = set.insert s.retired w })) (record s { retired = set.insert s.retired w })).waiting ≡ s.waiting
    by_left true = sym (nothing s.waiting (kept.stopped (ap (λ o. is_some o) (sym (ap (λ (k : Core). k.stopping) is ∙ retired_same (λ (k : Core). k.stopping) (λ k. refl) (λ k v. refl) s w)) ∙ stops)))
    by_left false = refl

-- what waits goes only where no worker is left
pub retired_waits : (s t : Core) (w : ℕ) → t ≡ step s (Retired w) → all_retired t ≡ false → t.waiting ≡ s.waiting
retired_waits s t w is some = ap (λ (k : Core). k.waiting) is ∙ by_left (record s { retired = set.insert s.retired w }) (ap all_retired (sym is) ∙ some)
  where
    by_left : (r : Core) → all_retired (cond (all_retired r) (let_go r) r) ≡ false → (cond (all_retired r) (let_go r) r).waiting ≡ r.waiting
    by_left r none = elim (all_retired r) as (λ b. all_retired r ≡ b → all_retired (cond b (let_go r) r) ≡ false → (cond b (let_go r) r).waiting ≡ r.waiting) [
      | true ↦ λ all other. absurd (true≢false (sym all ∙ other))
      | false ↦ λ _ _. refl
    ] refl none

-- ---- what the acceptor did then
-- such an event tells of no ring and no listener
pub record IsOfJoin (s : Core) (e : Event) : Type 0 where
  pub out : (step s e).out ≡ s.out
  pub ended : (step s e).ended ≡ s.ended
  pub failures : (step s e).failures ≡ s.failures
  pub got : (t : ℕ) → is_got t e ≡ false
  pub failed : (t : ℕ) → is_failed t e ≡ false
  pub sent_on : (w : ℕ) → is_sent w e ≡ false
  pub back : (w : ℕ) → is_back w e ≡ false

pub faulted_of_join : (s : Core) (w : ℕ) → IsOfJoin s (Faulted w)
faulted_of_join s w = record { out = refl; ended = refl; failures = refl; got = λ t. refl; failed = λ t. refl; sent_on = λ v. refl; back = λ v. refl }

pub replaced_of_join : (s : Core) (w : ℕ) → IsOfJoin s (Replaced w)
replaced_of_join s w = record { out = refl; ended = refl; failures = refl; got = λ t. refl; failed = λ t. refl; sent_on = λ v. refl; back = λ v. refl }

pub retired_of_join : (s : Core) (w : ℕ) → IsOfJoin s (Retired w)
retired_of_join s w = record {
  out = retired_same (λ (k : Core). k.out) (λ k. refl) (λ k v. refl) s w;
  ended = retired_same (λ (k : Core). k.ended) (λ k. refl) (λ k v. refl) s w;
  failures = retired_same (λ (k : Core). k.failures) (λ k. refl) (λ k v. refl) s w;
  got = λ t. refl;
  failed = λ t. refl;
  sent_on = λ v. refl;
  back = λ v. refl;
}

one_none : (test : Event → Bool) (e : Event) → test e ≡ false → count_by test (e ∷ []) ≡ 0
one_none test e is = omega (arith, ap {B = ℕ} (λ b. cond b 1 0) is)

module _ {Li L D : Type 0} (given : Li → ℕ) (left : Li → Option (List L)) (rest : Li → Option (List Mark)) (identity : L → Identity) (ended : Li → Bool) (faults : Li → ℕ)
    (taken : D → Option (List (Entry L))) (count served : D → ℕ) (ls : List Li) (a b : Acceptor L) (event : Event)
    (may : allowed a.core event ≡ true) (of_join : IsOfJoin a.core event) (core : b.core ≡ step a.core event) (beside : KeepsBeside a b) where
  -- nothing was let go
  pub parted_acts : (d : D) → (count d < 2 ^ 64) × (served d < 2 ^ 64) → b.waiting ≡ a.waiting → Acts given left rest identity ended faults taken count served ls ls a b d d (event ∷ []) false
  parted_acts d fits waiting = moves_acts given left rest identity ended faults taken count served (Stopped false) ⊥ ls a b d d (event ∷ []) false fits (λ never _. absurd never) (λ never _ _. absurd never) (record {
    gone = [];
    adds = adds_none taken count served d fits;
    lets_go = inl (waiting, refl);
    early = λ none. refl;
    allowed = (may, tt);
    core = core;
    out = ap (λ (k : Core). k.out) core ∙ of_join.out;
    ended = ap (λ (k : Core). k.ended) core ∙ of_join.ended;
    failures = ap (λ (k : Core). k.failures) core ∙ of_join.failures;
    got = λ t. one_none (is_got t) event (of_join.got t);
    failed = λ t. one_none (is_failed t) event (of_join.failed t);
    sent_on = λ w. one_none (is_sent w) event (of_join.sent_on w);
    back = λ w. one_none (is_back w) event (of_join.back w);
    beside = beside;
  })

  -- what waited was lost, since no worker is left
  pub last_acts : (d e : D) → (count d < 2 ^ 64) × (served d < 2 ^ 64) → b.waiting ≡ None → Adds taken count served d e (gone_of (Lost None) a.waiting)
      → Acts given left rest identity ended faults taken count served ls ls a b d e (event ∷ []) true
  last_acts d e fits waiting adds = moves_acts given left rest identity ended faults taken count served (Lost None) (Unit {0}) ls a b d e (event ∷ []) true fits (λ _ is. absurd (true≢false (sym is))) (λ _ none_left is. inr (refl, is refl)) (record {
    gone = gone_of (Lost None) a.waiting;
    adds = adds;
    lets_go = inr (waiting, refl, tt);
    early = λ none. ap (gone_of (Lost None)) (held_none a.waiting (omega (arith, none, a.counted, a.kept.balance, ap held a.waits)));
    allowed = (may, tt);
    core = core;
    out = ap (λ (k : Core). k.out) core ∙ of_join.out;
    ended = ap (λ (k : Core). k.ended) core ∙ of_join.ended;
    failures = ap (λ (k : Core). k.failures) core ∙ of_join.failures;
    got = λ t. one_none (is_got t) event (of_join.got t);
    failed = λ t. one_none (is_failed t) event (of_join.failed t);
    sent_on = λ w. one_none (is_sent w) event (of_join.sent_on w);
    back = λ w. one_none (is_back w) event (of_join.back w);
    beside = beside;
  })
