-- How what waits goes to a worker, and what the core makes of it.
use Rattle.std.proofs.Common.{◌≡◌, ◌≢◌, ℕ, zero, suc, ◌+◌, ◌<◌, ◌≤◌, Bool, true, false, cond, List, [], ◌∷◌, ◌++◌, length, map, get_or, set, Option, Some, refl, sym, ap, subst, ◌∙◌, arith, nat_lt, inl, inr, get_or-set_same, get_or-set_other}
use Rattle.std.proofs.lemmas.List.Sums.{sum_by-set}
use Rattle.std.specs.Prelude.{sum, ◌^◌, ◌&&◌, ◌||◌, not, nat_eq, is_some, IfSome, slice_get, slice_set, slice_index, slice_index_or}
use Rattle.std.specs.FinSet as set
use Rattle.std.specs.FinSet.{contains-insert, contains-remove}
use Rattle.std.specs.Cmp.{nat_cmp_total, unsigned_tied}
use Rattle.std.proofs.lemmas.Bool.Decides.{nat_tests}
use Rattle.std.proofs.lemmas.Bool.{cases_eq}
use Rattle.std.proofs.lemmas.List.{map-set}
use Rattle.std.proofs.Math.ListN.{length-set}
use Rattle.std.proofs.Math.Seq.{map-set_same}
use Rattle.std.proofs.lemmas.Option.{slice_get-get_or}
use Rattle.rtrb.specs.Ring.{known_free, sent, SameProducer}
use Rattle.rtrb.specs.declared.producer.Producer.{Producer}
use Rattle.server_core.specs.Numbers.{Numbers}
use Rattle.server_core.specs.Core.{Core, IsKept, first_free, in_order, is_at, is_worker, may_place, step}
use Rattle.server_core.specs.declared.event.Event.TheVariants.{RingFull, Notice, Sent}
use Rattle.server_acceptor.specs.Rings.{ring_in}
use Rattle.rtrb.specs.declared.errors.PushError.TheVariants.{Full}
use Rattle.server_acceptor.specs.Placing.{parcel_of, waits_of, HasNoPlace, KeepsSent, PutsAt}
use Rattle.server_jobs.specs.declared.parcel.Parcel.{Parcel}
use Rattle.server_jobs.specs.declared.waiting.Waiting.{Waiting}

-- ---- one ring among those of all workers
module _ {T A P : Type 0} where
  pub same_ring : (p q : Producer T A P) → SameProducer p q → ring_in q ≡ ring_in p
  same_ring p q same = λ i. (same.0.0 i, (same.0.1 i, (same.0.2 i, same.0.3 i)))

  pub keeps_sent : (ps : List (Producer T A P)) (w : ℕ) (p q : Producer T A P) → p ≡ get_or ps w p → SameProducer p q → sent q ≡ sent p → KeepsSent ps (set ps w q)
  keeps_sent ps w p q is same as_before = record {
    rings = map-set_same ring_in ps w q p (same_ring p q same ∙ ap ring_in is);
    sent_on = map-set_same sent ps w q p (as_before ∙ ap (λ r. sent r) is);
  }

  map_at : {Y : Type 0} (f : Producer T A P → Y) (ps : List (Producer T A P)) (w : ℕ) (d : Y) (p : Producer T A P) → w < length ps → get_or (map f ps) w d ≡ f (get_or ps w p)
  map_at f [] w d p inside = absurd (omega arith)
  map_at f (x ∷ ps) zero d p inside = refl
  map_at f (x ∷ ps) (suc w) d p inside = map_at f ps w d p (omega arith)

  pub puts_at : (ps : List (Producer T A P)) (w : ℕ) (p q : Producer T A P) (item : T) → w < length ps → p ≡ get_or ps w p → SameProducer p q → sent q ≡ sent p ++ item ∷ [] → PutsAt ps (set ps w q) w item
  puts_at ps w p q item inside is same more = record {
    rings = map-set_same ring_in ps w q p (same_ring p q same ∙ ap ring_in is);
    inside = inside;
    sent_on = map-set (λ r. sent r) ps w q ∙ ap (set (map (λ r. sent r) ps) w) (more ∙ ap (λ xs. xs ++ item ∷ []) (ap (λ r. sent r) is ∙ sym (map_at (λ r. sent r) ps w [] p inside)));
  }

  pub no_place_at : (ps : List (Producer T A P)) (w : ℕ) (q : Producer T A P) → w < length ps → known_free q ≡ 0 → HasNoPlace (set ps w q) w
  no_place_at ps w q inside none =
      rw (slice_get-get_or (set ps w q) w q (omega (arith, length-set ps w q)), get_or-set_same ps w q q inside) none

  set_get : (ps : List (Producer T A P)) (w v : ℕ) (q : Producer T A P) → v ≢ w → slice_get (set ps w q) v ≡ slice_get ps v
  set_get [] w v q other = refl
  set_get (x ∷ ps) zero zero q other = absurd (other refl)
  set_get (x ∷ ps) zero (suc v) q other = refl
  set_get (x ∷ ps) (suc w) zero q other = refl
  set_get (x ∷ ps) (suc w) (suc v) q other = set_get ps w v q (λ e. other (ap (λ n. suc n) e))

  pub no_place_still : (ps : List (Producer T A P)) (w : ℕ) (q : Producer T A P) → w < length ps → known_free q ≡ 0 → (v : ℕ) → HasNoPlace ps v → HasNoPlace (set ps w q) v
  no_place_still ps w q inside none v has = elim (cases_eq v w) [
    | inl same ↦ rw same (no_place_at ps w q inside none)
    | inr other ↦ rw (set_get ps w v q other) has
  ]

  pub no_place_other : (ps : List (Producer T A P)) (w v : ℕ) (q : Producer T A P) → v ≢ w → HasNoPlace ps v → HasNoPlace (set ps w q) v
  no_place_other ps w v q other has = rw (set_get ps w v q other) has

  pub keeps_sent_trans : (ps qs rs : List (Producer T A P)) → KeepsSent ps qs → KeepsSent qs rs → KeepsSent ps rs
  keeps_sent_trans ps qs rs f s = record { rings = s.rings ∙ f.rings; sent_on = s.sent_on ∙ f.sent_on }

-- ---- the core
at_itself : (w : ℕ) → is_at (Some w) w ≡ true
at_itself w = grind (arith, nat_tests)

-- what waits may be offered to the first free worker
pub may_offer : (s : Core) (w : ℕ) → is_some s.waiting ≡ true → w < length s.out → first_free s ≡ Some w → may_place s w ≡ true
may_offer s w waits below e =
    let number : is_worker s w ≡ true = grind (arith, nat_tests) in
    let turn : is_at (first_free s) w ≡ true = ap (λ o. is_at o w) e ∙ at_itself w in
    rw (number, waits, turn) refl

pub contains_removed : (free : Numbers) (w v : ℕ) → set.contains (set.remove free w) v ≡ (not (nat_eq v w) && set.contains free v)
contains_removed free w v = contains-remove nat_cmp_total free w v ∙ ap (λ b. not b && set.contains free v) (unsigned_tied v w)

pub contains_inserted : (free : Numbers) (w v : ℕ) → set.contains (set.insert free w) v ≡ (nat_eq v w || set.contains free v)
contains_inserted free w v = contains-insert nat_cmp_total free w v ∙ ap (λ b. b || set.contains free v) (unsigned_tied v w)

same_number : (x w : ℕ) → nat_eq x w ≡ true → x ≡ w
same_number x w t = grind (arith, nat_tests)

-- w isn't free where its notice comes
pub full_then : (s : Core) (w : ℕ) → set.contains (step s (RingFull w)).free w ≡ false
full_then s w = let e : nat_eq w w ≡ true = grind (arith, nat_tests) in contains_removed s.free w w ∙ ap (λ b. not b && set.contains s.free w) e

-- the same workers are free after it
pub free_again : (s : Core) (w : ℕ) → in_order s.order w ≡ true → set.contains s.free w ≡ true → (v : ℕ) → set.contains (step (step s (RingFull w)) (Notice w)).free v ≡ set.contains s.free v
free_again s w there free v =
    rw there (contains_inserted (set.remove s.free w) w v ∙ ap (λ b. nat_eq v w || b) (contains_removed s.free w v)
    ∙ elim (nat_eq v w) as (λ b. nat_eq v w ≡ b → (b || (not b && set.contains s.free v)) ≡ set.contains s.free v) [
      | true ↦ λ t. sym (ap (λ x. set.contains s.free x) (same_number v w t) ∙ free)
      | false ↦ λ _. refl
    ] refl)

abbrev pub IsRuled : Core → ℕ → Type 0
IsRuled s limit = (v : ℕ) → in_order s.order v ≡ true → set.contains s.free v ≡ nat_lt (slice_index s.out v) limit

pub ruled_full : (s t : Core) (limit w : ℕ) → IsRuled s limit → t ≡ step (step s (RingFull w)) (Notice w) → in_order s.order w ≡ true → set.contains s.free w ≡ true → IsRuled t limit
ruled_full s t limit w ruled is there free = subst (λ u. IsRuled u limit) (sym is) (λ v i. free_again s w there free v ∙ ruled v i)

pub below_limit : (s : Core) (limit w : ℕ) → IsRuled s limit → in_order s.order w ≡ true → set.contains s.free w ≡ true → slice_index s.out w < limit
below_limit s limit w ruled there free = let e : nat_lt (slice_index s.out w) limit ≡ true = sym (ruled w there) ∙ free in grind (arith, nat_tests)

ruled_sent : (s : Core) (limit w : ℕ) (remains : Bool) → IsRuled s limit → remains ≡ nat_lt (slice_index s.out w + 1) limit → set.contains s.free w ≡ true → w < length s.out
    → IsRuled (step s (Sent w remains)) limit
ruled_sent s limit w remains ruled is free inside v i =
    elim (cases_eq v w) [
      | inl same ↦ rw same (
          elim remains as (λ r. remains ≡ r → set.contains (cond r s.free (set.remove s.free w)) w ≡ nat_lt (slice_index (slice_set s.out w (slice_index s.out w + 1)) w) limit) [
            | true ↦ λ t. free ∙ sym t ∙ is ∙ ap (λ n. nat_lt n limit) (sym (get_or-set_same s.out w (slice_index s.out w + 1) 0 inside))
            | false ↦ λ t. full_then s w ∙ sym t ∙ is ∙ ap (λ n. nat_lt n limit) (sym (get_or-set_same s.out w (slice_index s.out w + 1) 0 inside))
          ] refl)
      | inr other ↦
          let unlike : nat_eq v w ≡ false = grind (arith, nat_tests) in
          let rest : set.contains s.free v ≡ nat_lt (slice_index (slice_set s.out w (slice_index s.out w + 1)) v) limit = ruled v i ∙ ap (λ n. nat_lt n limit) (sym (get_or-set_other s.out w v (slice_index s.out w + 1) 0 other)) in
          elim remains as (λ r. set.contains (cond r s.free (set.remove s.free w)) v ≡ nat_lt (slice_index (slice_set s.out w (slice_index s.out w + 1)) v) limit) [
            | true ↦ rest
            | false ↦ contains_removed s.free w v ∙ ap (λ b. not b && set.contains s.free v) unlike ∙ rest
          ]
    ]

pub ruled_after_sent : (s t : Core) (limit w : ℕ) (remains : Bool) → IsRuled s limit → t ≡ step s (Sent w remains) → remains ≡ nat_lt (slice_index s.out w + 1) limit → set.contains s.free w ≡ true → w < length s.out
    → IsRuled t limit
ruled_after_sent s t limit w remains ruled is more free inside = subst (λ u. IsRuled u limit) (sym is) (ruled_sent s limit w remains ruled more free inside)

-- ---- what waits, as a parcel and back
pub back_again : {L : Type 0} (p : Parcel L) (w : Waiting L) (o : Option (Waiting L)) → Full p ≡ Full (parcel_of w) → o ≡ Some w → waits_of p ≡ o
back_again p w o same is = let e : p ≡ parcel_of w = cc in ap (λ q. waits_of q) e ∙ sym is

pub where_some : {X : Type 0} (P : X → Type 0) (o : Option X) (x : X) → o ≡ Some x → P x → IfSome o P
where_some P o x is p = rw is p

-- ---- a listener that failed as often as it may has ended
abbrev pub IsPatient : Core → ℕ → Type 0
IsPatient s limit = (t : ℕ) → slice_index_or s.ended t true ≡ false → slice_index s.failures t < limit

pub patient_kept : (s u : Core) (limit : ℕ) → u.ended ≡ s.ended → u.failures ≡ s.failures → IsPatient s limit → IsPatient u limit
patient_kept s u limit ended failures patient t opened = subst (λ fs. slice_index fs t < limit) (sym failures) (patient t (ap (λ es. slice_index_or es t true) (sym ended) ∙ opened))

-- ---- one more is out
pub sum_higher : (xs : List ℕ) (w : ℕ) → w < length xs → sum (slice_set xs w (slice_index xs w + 1)) ≡ sum xs + 1
sum_higher xs w inside = omega (arith, sum_by-set (λ x. x) xs w (slice_index xs w + 1) 0 inside)

-- as many are out as the core counts, and few enough
pub out_fits : (s : Core) → IsKept s → sum s.out ≤ 2 ^ 60
out_fits s kept = omega (arith, kept.balance, kept.bound)
