-- The walk over the marked places of an order finds the first free worker that isn't passed over.
use Rattle.std.proofs.Common.{◌≡◌, ℕ, zero, suc, ◌+◌, ◌-◌, ◌<◌, ◌≤◌, Bool, true, false, cond, List, length, get_or, take, drop, Option, Some, None, refl, sym, ap, ◌∙◌, arith, nat_lt, take-append-drop}
use Rattle.std.specs.Option.{option_or}
use Rattle.std.specs.Prelude.{◌&&◌, not, find, MatchOption}
use Rattle.std.specs.FinSet as set
use Rattle.std.proofs.Math.Seq.{drop-cons}
use Rattle.std.proofs.lemmas.Bool.Decides.{nat_tests}
use Rattle.std.proofs.lemmas.List.{drop_all}
use Rattle.std.proofs.lemmas.List.Folds.{find-append}
use Rattle.server_core.specs.Core.{round}
use Rattle.server_core.specs.Numbers.{Numbers, IsFirstFrom, HasNoneFrom}
use Rattle.server_core.specs.Turns.{workers_at, ArePlaces, AreWithin, is_left}
use Rattle.server_core.proofs.Places.{is_marked_at, contains_at}

-- the first place of the rest passes or not
pub find_here : (p : ℕ → Bool) (xs : List ℕ) (k : ℕ) → k < length xs → find p (drop k xs) ≡ cond (p (get_or xs k 0)) (Some (get_or xs k 0)) (find p (drop (k + 1) xs))
find_here p xs k inside =
    let more : suc k ≡ k + 1 = omega arith in
    ap (find p) (drop-cons xs k 0 inside) ∙ ap (λ n. cond (p (get_or xs k 0)) (Some (get_or xs k 0)) (find p (drop n xs))) more

pass_by : (p : ℕ → Bool) (xs : List ℕ) (n from : ℕ) → from + n ≤ length xs → ((i : ℕ) → from ≤ i → i < from + n → p (get_or xs i 0) ≡ false)
    → find p (drop from xs) ≡ find p (drop (from + n) xs)
pass_by p xs zero from fits fails = ap (λ k. find p (drop k xs)) (omega arith)
pass_by p xs (suc n) from fits fails =
    let here : p (get_or xs from 0) ≡ false = fails from (omega arith) (omega arith) in
    find_here p xs from (omega arith)
    ∙ ap (λ b. cond b (Some (get_or xs from 0)) (find p (drop (from + 1) xs))) here
    ∙ pass_by p xs n (from + 1) (omega arith) (λ i low high. fails i (omega arith) (omega arith))
    ∙ ap (λ k. find p (drop k xs)) (omega arith)

pass_to : (p : ℕ → Bool) (xs : List ℕ) (from k : ℕ) → from ≤ k → k ≤ length xs → ((i : ℕ) → from ≤ i → i < k → p (get_or xs i 0) ≡ false)
    → find p (drop from xs) ≡ find p (drop k xs)
pass_to p xs from k low fits fails =
    let there : from + (k - from) ≡ k = omega arith in
    pass_by p xs (k - from) from (omega arith) (λ i above below. fails i above (omega arith)) ∙ ap (λ n. find p (drop n xs)) there

none_left_from : (p : ℕ → Bool) (xs : List ℕ) (from : ℕ) → ((i : ℕ) → from ≤ i → i < length xs → p (get_or xs i 0) ≡ false) → find p (drop from xs) ≡ None
none_left_from p xs from fails =
    elim (nat_lt (length xs) from) as (λ b. nat_lt (length xs) from ≡ b → find p (drop from xs) ≡ None) [
      | true ↦ λ e. ap (find p) (drop_all from xs (grind (arith, nat_tests)))
      | false ↦ λ e.
          let low : from ≤ length xs = grind (arith, nat_tests) in
          pass_to p xs from (length xs) low (omega arith) fails ∙ ap (find p) (drop_all (length xs) xs (omega arith))
    ] refl

-- ---- the free workers
pub free_at : (order : List ℕ) (places : List (Option ℕ)) (marks : Numbers) (k : ℕ) → ArePlaces order places → k < length order
    → set.contains (workers_at order marks) (get_or order k 0) ≡ set.contains marks k
free_at order places marks k are inside = contains_at order places marks are (get_or order k 0) ∙ ap (is_marked_at marks) (are.of_order k inside)

unmarked_fails : (order : List ℕ) (places : List (Option ℕ)) (marks passed : Numbers) (k : ℕ) → ArePlaces order places → k < length order
    → set.contains marks k ≡ false → is_left (workers_at order marks) passed (get_or order k 0) ≡ false
unmarked_fails order places marks passed k are inside e = rw (free_at order places marks k are inside ∙ e) refl

at_first : (order : List ℕ) (places : List (Option ℕ)) (marks passed : Numbers) (from k : ℕ) → ArePlaces order places → AreWithin marks order → IsFirstFrom marks from k
    → find (is_left (workers_at order marks) passed) (drop from order)
    ≡ cond (not (set.contains passed (get_or order k 0))) (Some (get_or order k 0)) (find (is_left (workers_at order marks) passed) (drop (k + 1) order))
at_first order places marks passed from k are within first =
    let inside = within k first.there in
    pass_to (is_left (workers_at order marks) passed) order from k first.behind (omega arith) (λ i low high. unmarked_fails order places marks passed i are (omega arith) (first.between i low high))
    ∙ find_here (is_left (workers_at order marks) passed) order k inside
    ∙ ap (λ b. cond (b && not (set.contains passed (get_or order k 0))) (Some (get_or order k 0)) (find (is_left (workers_at order marks) passed) (drop (k + 1) order)))
    (free_at order places marks k are inside ∙ first.there)

pub found_first : (order : List ℕ) (places : List (Option ℕ)) (marks passed : Numbers) (from k : ℕ) → ArePlaces order places → AreWithin marks order → IsFirstFrom marks from k
    → set.contains passed (get_or order k 0) ≡ false → find (is_left (workers_at order marks) passed) (drop from order) ≡ Some (get_or order k 0)
found_first order places marks passed from k are within first e =
    at_first order places marks passed from k are within first
    ∙ ap (λ b. cond (not b) (Some (get_or order k 0)) (find (is_left (workers_at order marks) passed) (drop (k + 1) order))) e

pub passed_first : (order : List ℕ) (places : List (Option ℕ)) (marks passed : Numbers) (from k : ℕ) → ArePlaces order places → AreWithin marks order → IsFirstFrom marks from k
    → set.contains passed (get_or order k 0) ≡ true → find (is_left (workers_at order marks) passed) (drop (k + 1) order) ≡ find (is_left (workers_at order marks) passed) (drop from order)
passed_first order places marks passed from k are within first e =
    sym (at_first order places marks passed from k are within first
    ∙ ap (λ b. cond (not b) (Some (get_or order k 0)) (find (is_left (workers_at order marks) passed) (drop (k + 1) order))) e)

pub found_none : (order : List ℕ) (places : List (Option ℕ)) (marks passed : Numbers) (from : ℕ) → ArePlaces order places → HasNoneFrom marks from
    → find (is_left (workers_at order marks) passed) (drop from order) ≡ None
found_none order places marks passed from are none =
    none_left_from (is_left (workers_at order marks) passed) order from (λ i low inside. unmarked_fails order places marks passed i are inside (none i low))

-- ---- round
round_some : (p : ℕ → Bool) (xs : List ℕ) (n w : ℕ) → Some w ≡ find p (drop n xs) → Some w ≡ find p (round xs n)
round_some p xs n w e = sym (find-append p (drop n xs) (take n xs) ∙ ap (λ o. option_or o (find p (take n xs))) (sym e))

or_none : (o : Option ℕ) → option_or o None ≡ o
or_none None = refl
or_none (Some w) = refl

round_none : (p : ℕ → Bool) (xs : List ℕ) (n : ℕ) → None ≡ find p (drop n xs) → find p xs ≡ find p (round xs n)
round_none p xs n e =
    ap (find p) (sym (take-append-drop n xs))
    ∙ find-append p (take n xs) (drop n xs)
    ∙ ap (option_or (find p (take n xs))) (sym e)
    ∙ or_none (find p (take n xs))
    ∙ sym (find-append p (drop n xs) (take n xs) ∙ ap (λ o. option_or o (find p (take n xs))) (sym e))

-- what is found from the place n on, or else from the front
pub round_or : (p : ℕ → Bool) (xs : List ℕ) (n : ℕ) (back o : Option ℕ) → back ≡ find p (drop n xs) → MatchOption back (o ≡ find p xs) (λ w. o ≡ Some w) → o ≡ find p (round xs n)
round_or p xs n None o e m = m ∙ round_none p xs n e
round_or p xs n (Some w) o e m = m ∙ round_some p xs n w e
