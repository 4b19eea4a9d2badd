-- Which worker is picked.
use Rattle.std.proofs.Common.{◌≡◌, ℕ, ◌<◌, Bool, true, false, true≢false, cond, List, [], ◌∷◌, ◌++◌, length, get_or, take, drop, Option, Some, None, refl, sym, ap, ◌∙◌, arith, take-append-drop}
use Rattle.std.specs.Prelude.{◌&&◌, ◌||◌, ◌↔◌, ◌==◌, not, find, is_some, IfSome}
use Rattle.std.specs.Ordering.{nat_cmp}
use Rattle.std.specs.FinSet as set
use Rattle.std.specs.FinSet.{contains-empty}
use Rattle.std.proofs.lemmas.Bool.Decides.{nat_tests}
use Rattle.std.proofs.lemmas.List.Folds.{list_any-append, list_any_at}
use Rattle.server_core.specs.Numbers.{Numbers}
use Rattle.server_core.specs.Core.{Core, IsKept, in_order, round, first_free, is_at, is_worker, may_place, picked}
use Rattle.server_core.proofs.Orders.{or_true, and_left, and_right, not_true, AreBelow}

or_comm : (a b : Bool) → (a || b) ≡ (b || a)
or_comm true true = refl
or_comm true false = refl
or_comm false true = refl
or_comm false false = refl

pub in_round : (xs : List ℕ) (n w : ℕ) → in_order (drop n xs ++ take n xs) w ≡ in_order xs w
in_round xs n w =
    list_any-append (λ x. x == w) (drop n xs) (take n xs)
    ∙ or_comm (in_order (drop n xs) w) (in_order (take n xs) w)
    ∙ sym (list_any-append (λ x. x == w) (take n xs) (drop n xs))
    ∙ ap (λ ys. in_order ys w) (take-append-drop n xs)

pub finds : (p : ℕ → Bool) (xs : List ℕ) (w : ℕ) → find p xs ≡ Some w → p w ≡ true
finds p [] w e = cc
finds p (x ∷ xs) w e =
    elim (p x) as (λ b. p x ≡ b → cond b (Some x) (find p xs) ≡ Some w → p w ≡ true) [
      | true ↦ λ t f. let same : x ≡ w = cc in ap p (sym same) ∙ t
      | false ↦ λ _ f. finds p xs w f
    ] refl e

misses : (p : ℕ → Bool) (xs : List ℕ) → find p xs ≡ None → (w : ℕ) → in_order xs w ≡ true → p w ≡ false
misses p [] e w i = absurd (true≢false (sym i))
misses p (x ∷ xs) e w i =
    elim (p x) as (λ b. p x ≡ b → cond b (Some x) (find p xs) ≡ None → p w ≡ false) [
      | true ↦ λ t f. absurd cc
      | false ↦ λ t f.
          elim (x == w) as (λ b. (x == w) ≡ b → p w ≡ false) [
            | true ↦ λ same. let e : x ≡ w = grind (arith, nat_tests) in ap p (sym e) ∙ t
            | false ↦ λ other. misses p xs f w (or_true (x == w) (in_order xs w) i other)
          ] refl
    ] refl e

left_out : (a b : Bool) → (a && not b) ≡ false → a ≡ true → b ≡ true
left_out true true e f = refl
left_out true false e f = absurd (true≢false e)
left_out false b e f = absurd (true≢false (sym f))

nothing : (o : Option ℕ) → ((w : ℕ) → o ≡ Some w → true ≡ false) → o ≡ None
nothing None never = refl
nothing (Some w) never = absurd (true≢false (never w refl))

-- none is picked exactly where every free worker is passed over
pub picked_none : (s : Core) (passed : Numbers) → IsKept s → (picked s passed ≡ None) ↔ ((w : ℕ) → set.contains s.free w ≡ true → set.contains passed w ≡ true)
picked_none s passed h = (
  (λ none w free. left_out (set.contains s.free w) (set.contains passed w)
      (misses (λ v. set.contains s.free v && not (set.contains passed v)) (round s.order s.next) none w (in_round s.order s.next w ∙ h.free_in_order w free)) free),
  (λ each. nothing (picked s passed) (λ w e.
      let passes = finds (λ v. set.contains s.free v && not (set.contains passed v)) (round s.order s.next) w e in
      sym (each w (and_left (set.contains s.free w) (not (set.contains passed w)) passes))
      ∙ not_true (set.contains passed w) (and_right (set.contains s.free w) (not (set.contains passed w)) passes))),
)

if_some : (P : ℕ → Type 0) (o : Option ℕ) → ((w : ℕ) → o ≡ Some w → P w) → IfSome o P
if_some P None each = tt
if_some P (Some w) each = each w refl

-- the one that is picked is the number of a worker
pub picked_below : (s : Core) (passed : Numbers) → IsKept s → IfSome (picked s passed) (λ w. w < length s.out)
picked_below s passed h = if_some (λ w. w < length s.out) (picked s passed) (λ w e.
    h.numbers w (h.free_in_order w (and_left (set.contains s.free w) (not (set.contains passed w)) (finds (λ v. set.contains s.free v && not (set.contains passed v)) (round s.order s.next) w e))))

-- each element of the order is the number of a worker
pub all_below : (n : ℕ) (order : List ℕ) → AreBelow n order → (k d : ℕ) → k < length order → get_or order k d < n
all_below n order below k d inside = below (get_or order k d) (list_any_at (λ x. x == get_or order k d) order k d inside (grind (arith, nat_tests)))

and_true : (a : Bool) → (a && true) ≡ a
and_true true = refl
and_true false = refl

-- with none passed over, the one that is picked is the first free one
pub picked_free : (s : Core) → picked s set.empty ≡ first_free s
picked_free s = ap (λ p. find p (round s.order s.next)) (λ i w. (ap (λ b. set.contains s.free w && not b) (contains-empty nat_cmp w) ∙ and_true (set.contains s.free w)) i)

at_itself : (w : ℕ) → is_at (Some w) w ≡ true
at_itself w = grind (arith, nat_tests)

-- what waits may be placed at the one that is picked with none passed over
pub may_place_picked : (s : Core) (w : ℕ) → is_some s.waiting ≡ true → picked s set.empty ≡ Some w → w < length s.out → may_place s w ≡ true
may_place_picked s w waits e below =
    let number : is_worker s w ≡ true = grind (arith, nat_tests) in
    let turn : is_at (first_free s) w ≡ true = ap (λ o. is_at o w) (sym (picked_free s) ∙ e) ∙ at_itself w in
    rw (number, waits, turn) refl
