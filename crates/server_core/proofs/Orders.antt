-- The order of the workers, as it loses and gets one.
use Rattle.std.proofs.Common.{◌≡◌, ℕ, ◌+◌, ◌<◌, Bool, true, false, true≢false, cond, List, [], ◌∷◌, ◌++◌, length, get_or, refl, sym, ap, ◌∙◌, arith, nat_eq, nat_lt, length-append}
use Rattle.std.specs.Prelude.{◌&&◌, ◌||◌, ◌==◌, not}
use Rattle.std.specs.List.{list_any, swap_remove, IsDistinct}
use Rattle.std.specs.List.Sorted.{IsPermutation}
use Rattle.std.specs.Cmp.{nat_cmp_total, unsigned_tied, nat_eq_equiv}
use Rattle.std.specs.FinSet as set
use Rattle.std.specs.FinSet.{contains-insert, contains-remove}
use Rattle.std.proofs.lemmas.Bool.Decides.{nat_tests}
use Rattle.std.proofs.lemmas.List.Folds.{list_any-append}
use Rattle.std.proofs.lemmas.List.Sums.{passes_at_first}
use Rattle.std.proofs.lemmas.List.Sorted.{IsPermutation-swap_remove, list_any-IsPermutation}
use Rattle.std.proofs.lemmas.Map.Keys.{IsDistinct-IsPermutation, IsDistinct-tail, IsDistinct-push}
use Rattle.std.proofs.lemmas.Map.Steps.{length-le_from_distinct_below}
use Rattle.server_core.specs.Numbers.{Numbers}
use Rattle.server_core.specs.Core.{in_order, place_of, place_or_first, without}

-- the free workers lie in the order
abbrev pub LiesIn : Numbers → List ℕ → Type 0
LiesIn free order = (w : ℕ) → set.contains free w ≡ true → in_order order w ≡ true

abbrev pub AreBelow : ℕ → List ℕ → Type 0
AreBelow n order = (w : ℕ) → in_order order w ≡ true → w < n

pub or_true : (a b : Bool) → (a || b) ≡ true → a ≡ false → b ≡ true
or_true true b e f = absurd (true≢false f)
or_true false b e f = e

pub true_or : (a b : Bool) → b ≡ true → (a || b) ≡ true
true_or true b e = refl
true_or false b e = e

pub and_left : (a b : Bool) → (a && b) ≡ true → a ≡ true
and_left true b e = refl
and_left false b e = absurd (true≢false (sym e))

pub and_right : (a b : Bool) → (a && b) ≡ true → b ≡ true
and_right true b e = e
and_right false b e = absurd (true≢false (sym e))

pub not_true : (a : Bool) → not a ≡ true → a ≡ false
not_true true e = absurd (true≢false (sym e))
not_true false e = refl

pub has_place : (order : List ℕ) (w : ℕ) → in_order order w ≡ true → place_of order w < length order
has_place [] w e = absurd (true≢false (sym e))
has_place (x ∷ order) w e =
    elim (x == w) as (λ b. (x == w) ≡ b → place_of (x ∷ order) w < length (x ∷ order)) [
      | true ↦ λ t. grind arith
      | false ↦ λ t. let rest = has_place order w (or_true (x == w) (in_order order w) e t) in grind arith
    ] refl

at_place : (order : List ℕ) (w : ℕ) → in_order order w ≡ true → w ≡ get_or order (place_of order w) w
at_place order w e =
    let passes = passes_at_first (λ x. x == w) order w (has_place order w e) in
    grind (arith, nat_tests)

pub permuted : (order : List ℕ) (w : ℕ) → in_order order w ≡ true → IsPermutation order (w ∷ without order w)
permuted order w e = IsPermutation-swap_remove order (place_of order w) w (has_place order w e) (at_place order w e)

-- w, as it was taken from its place
pub removed : (order : List ℕ) (w r k : ℕ) → in_order order w ≡ true → k ≡ place_of order w → r ≡ get_or order k r → swap_remove order k r ≡ without order w
removed order w r k e place value =
    let passes = passes_at_first (λ x. x == w) order r (has_place order w e) in
    let there : get_or order (place_of order w) r ≡ w = grind (arith, nat_tests) in
    let same : r ≡ w = value ∙ ap (λ i. get_or order i r) place ∙ there in
    rw (place, same) refl

pub in_order-without : (order : List ℕ) (w v : ℕ) → in_order order w ≡ true → in_order order v ≡ ((w == v) || in_order (without order w) v)
in_order-without order w v e = list_any-IsPermutation (λ x. x == v) _ _ (permuted order w e)

pub distinct_without : (order : List ℕ) (w : ℕ) → in_order order w ≡ true → IsDistinct nat_eq order → IsDistinct nat_eq (without order w)
distinct_without order w e d = IsDistinct-tail nat_eq w _ (IsDistinct-IsPermutation nat_eq nat_eq_equiv.symm _ _ (permuted order w e) d)

pub below_without : (n : ℕ) (order : List ℕ) (w : ℕ) → in_order order w ≡ true → AreBelow n order → AreBelow n (without order w)
below_without n order w e below = λ v i. below v (in_order-without order w v e ∙ true_or _ _ i)

-- ---- the free workers
contains_removed : (free : Numbers) (w v : ℕ) → set.contains (set.remove free w) v ≡ (not (nat_eq v w) && set.contains free v)
contains_removed free w v = contains-remove nat_cmp_total free w v ∙ ap (λ b. not b && set.contains free v) (unsigned_tied v w)

contains_inserted : (free : Numbers) (w v : ℕ) → set.contains (set.insert free w) v ≡ (nat_eq v w || set.contains free v)
contains_inserted free w v = contains-insert nat_cmp_total free w v ∙ ap (λ b. b || set.contains free v) (unsigned_tied v w)

pub lies-remove : (free : Numbers) (order : List ℕ) (w : ℕ) → LiesIn free order → LiesIn (set.remove free w) order
lies-remove free order w lies = λ v i. lies v (and_right _ _ (sym (contains_removed free w v) ∙ i))

pub lies-without : (free : Numbers) (order : List ℕ) (w : ℕ) → in_order order w ≡ true → LiesIn free order → LiesIn (set.remove free w) (without order w)
lies-without free order w e lies = λ v i.
    let both = sym (contains_removed free w v) ∙ i in
    let differ : nat_eq v w ≡ false = not_true (nat_eq v w) (and_left (not (nat_eq v w)) (set.contains free v) both) in
    let here : in_order order v ≡ true = lies v (and_right (not (nat_eq v w)) (set.contains free v) both) in
    or_true (w == v) (in_order (without order w) v) (sym (in_order-without order w v e) ∙ here) (nat_eq_equiv.symm w v ∙ differ)

pub lies-insert : (free : Numbers) (order : List ℕ) (w : ℕ) → in_order order w ≡ true → LiesIn free order → LiesIn (set.insert free w) order
lies-insert free order w e lies = λ v i.
    elim (nat_eq v w) as (λ b. nat_eq v w ≡ b → in_order order v ≡ true) [
      | true ↦ λ t. let same : v ≡ w = grind (arith, nat_tests) in rw same e
      | false ↦ λ t. lies v (or_true (nat_eq v w) (set.contains free v) (sym (contains_inserted free w v) ∙ i) t)
    ] refl

-- ---- one more at the end
pub in_order-push : (order : List ℕ) (w v : ℕ) → in_order (order ++ w ∷ []) v ≡ (in_order order v || ((w == v) || false))
in_order-push order w v = list_any-append (λ x. x == v) order (w ∷ [])

pub lies-push : (free : Numbers) (order : List ℕ) (w : ℕ) → LiesIn free order → LiesIn (set.insert free w) (order ++ w ∷ [])
lies-push free order w lies = lies-insert free (order ++ w ∷ []) w
    (in_order-push order w w ∙ grind (arith, nat_tests))
    (λ v i. let here = lies v i in in_order-push order w v ∙ grind arith)

pub below-push : (n : ℕ) (order : List ℕ) (w : ℕ) → w < n → AreBelow n order → AreBelow n (order ++ w ∷ [])
below-push n order w small below = λ v i.
    elim (w == v) as (λ b. (w == v) ≡ b → v < n) [
      | true ↦ λ t. grind (arith, nat_tests)
      | false ↦ λ t. below v (let e = sym (in_order-push order w v) ∙ i in grind arith)
    ] refl

pub flipped : (xs : List ℕ) (q : ℕ) → list_any (nat_eq q) xs ≡ in_order xs q
flipped [] q = refl
flipped (x ∷ xs) q = λ i. nat_eq_equiv.symm q x i || flipped xs q i

pub distinct-push : (order : List ℕ) (w : ℕ) → in_order order w ≡ false → IsDistinct nat_eq order → IsDistinct nat_eq (order ++ w ∷ [])
distinct-push order w out d = IsDistinct-push nat_eq_equiv order w d (flipped order w ∙ out)

-- there is room for a worker that isn't in order
pub has_room : (n : ℕ) (order : List ℕ) (w : ℕ) → w < n → in_order order w ≡ false → AreBelow n order → IsDistinct nat_eq order → length order < n
has_room n order w small out below d =
    let all = length-le_from_distinct_below (order ++ w ∷ []) n (distinct-push order w out d) (λ q i. below-push n order w small below q (sym (flipped (order ++ w ∷ []) q) ∙ i)) in
    let size : length (order ++ w ∷ []) ≡ length order + 1 = length-append order (w ∷ []) in
    omega arith

-- ---- places
pub place_within : (order : List ℕ) (k : ℕ) → 0 < place_or_first order k → place_or_first order k < length order
place_within order k =
    elim (nat_lt k (length order)) as (λ b. nat_lt k (length order) ≡ b → 0 < cond b k 0 → cond b k 0 < length order) [
      | true ↦ λ t _. grind (arith, nat_tests)
      | false ↦ λ _ h. absurd (omega arith)
    ] refl
