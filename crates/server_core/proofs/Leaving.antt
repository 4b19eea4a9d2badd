-- A worker leaves the order, and the last one takes its place.
use Rattle.std.proofs.Common.{◌≡◌, ◌≢◌, ℕ, ◌-◌, ◌<◌, ◌≤◌, true, false, true≢false, cond, List, length, get_or, set as put, Option, Some, None, refl, sym, ap, ◌∙◌, arith, nat_eq, nat_lt, length-set, get_or-set_other, get_or-set_same}
use Rattle.std.specs.List.{swap_remove}
use Rattle.std.specs.Cmp.{nat_cmp_total}
use Rattle.std.specs.FinSet as set
use Rattle.std.specs.FinSet.{nat_cmp-IsAntisymmetric, same_set}
use Rattle.std.proofs.lemmas.Bool.Decides.{nat_tests}
use Rattle.std.proofs.Math.ListN.{get_or-eq_default}
use Rattle.std.proofs.lemmas.Grind.{get_or_default_zero}
use Rattle.std.proofs.lemmas.List.{get_or-take, length-take}
use Rattle.server_core.specs.Numbers.{Numbers, with_mark}
use Rattle.server_core.specs.Turns.{workers_at, ArePlaces, AreWithin}
use Rattle.server_core.proofs.Marks.{contains-with_mark}
use Rattle.server_core.proofs.Places.{is_marked_at, contains_at, put_place}

abbrev pub last_of : List ℕ → ℕ
last_of order = get_or order (length order - 1) 0

abbrev pub places_without : List ℕ → List (Option ℕ) → ℕ → ℕ → List (Option ℕ)
places_without order places w k = put (put places (last_of order) (Some k)) w None

abbrev pub marks_without : List ℕ → Numbers → ℕ → Numbers
marks_without order marks k = with_mark (with_mark marks k (set.contains marks (length order - 1))) (length order - 1) false

-- what holds where w stands at the place k
pub record Leaves (order : List ℕ) (places : List (Option ℕ)) (w k : ℕ) : Type 0 where
  pub are : ArePlaces order places
  pub there : get_or places w None ≡ Some k
  pub bound : k < length order

pub has_number : (places : List (Option ℕ)) (w k : ℕ) → get_or places w None ≡ Some k → w < length places
has_number places w k e =
    elim (nat_lt w (length places)) as (λ b. nat_lt w (length places) ≡ b → w < length places) [
      | true ↦ λ t. grind (arith, nat_tests)
      | false ↦ λ t. let past : length places ≤ w = grind (arith, nat_tests) in absurd (cc (e, get_or-eq_default places None past))
    ] refl

pub length-removed : (order : List ℕ) (k w : ℕ) → k < length order → length (swap_remove order k w) ≡ length order - 1
length-removed order k w inside = length-take (length order - 1) (put order k (get_or order (length order - 1) w)) ∙ omega (arith, length-set order k (get_or order (length order - 1) w))

get-removed : (order : List ℕ) (k w j : ℕ) → k < length order → j < length order - 1
    → get_or (swap_remove order k w) j 0 ≡ cond (nat_eq j k) (last_of order) (get_or order j 0)
get-removed order k w j inside less =
    get_or-take (length order - 1) (put order k (get_or order (length order - 1) w)) j 0 less
    ∙ elim (nat_eq j k) as (λ b. nat_eq j k ≡ b → get_or (put order k (get_or order (length order - 1) w)) j 0 ≡ cond b (last_of order) (get_or order j 0)) [
      | true ↦ λ e.
          let same : j ≡ k = grind (arith, nat_tests) in
          ap (λ i. get_or (put order k (get_or order (length order - 1) w)) i 0) same
          ∙ get_or-set_same order k (get_or order (length order - 1) w) 0 inside
          ∙ get_or_default_zero order (length order - 1) w (omega arith)
      | false ↦ λ e. let differ : j ≢ k = grind (arith, nat_tests) in get_or-set_other order k j (get_or order (length order - 1) w) 0 differ
    ] refl

last_place : (order : List ℕ) (places : List (Option ℕ)) (w k : ℕ) → Leaves order places w k → get_or places (last_of order) None ≡ Some (length order - 1)
last_place order places w k h = let bound = h.bound in h.are.of_order (length order - 1) (omega arith)

-- what the table has at q afterwards
left_at : (order : List ℕ) (places : List (Option ℕ)) (w k q : ℕ) → Leaves order places w k
    → get_or (places_without order places w k) q None ≡ cond (nat_eq q w) None (cond (nat_eq q (last_of order)) (Some k) (get_or places q None))
left_at order places w k q h =
    let size : length (put places (last_of order) (Some k)) ≡ length places = length-set places (last_of order) (Some k) in
    let number = has_number places w k h.there in
    let last_number = has_number places (last_of order) (length order - 1) (last_place order places w k h) in
    put_place (put places (last_of order) (Some k)) w q None (omega arith)
    ∙ ap (cond (nat_eq q w) None) (put_place places (last_of order) q (Some k) last_number)

-- where another one takes the place, it isn't the last one
not_last : (order : List ℕ) (places : List (Option ℕ)) (w k q : ℕ) → Leaves order places w k → nat_eq q w ≡ false → nat_eq q (last_of order) ≡ true → k < length order - 1
not_last order places w k q h differ same =
    let bound = h.bound in
    elim (nat_lt k (length order - 1)) as (λ b. nat_lt k (length order - 1) ≡ b → k < length order - 1) [
      | true ↦ λ t. grind (arith, nat_tests)
      | false ↦ λ t.
          let last : length order - 1 ≡ k = grind (arith, nat_tests) in
          let value = (h.are.in_order w k h.there).1 in
          let number : q ≡ last_of order = grind (arith, nat_tests) in
          let equal : q ≡ w = number ∙ ap (λ i. get_or order i 0) last ∙ value in
          absurd (grind (arith, nat_tests))
    ] refl

-- two workers have two places
apart : (places : List (Option ℕ)) (v w j k : ℕ) → get_or places v None ≡ Some j → get_or places w None ≡ Some k → nat_eq j k ≡ false → nat_eq v w ≡ false
apart places v w j k e f differ =
    elim (nat_eq v w) as (λ b. nat_eq v w ≡ b → b ≡ false) [
      | true ↦ λ t.
          let same : v ≡ w = grind (arith, nat_tests) in
          let number : get_or places v None ≡ get_or places w None = ap (λ q. get_or places q None) same in
          let place : j ≡ k = cc (e, f, number) in
          absurd (grind (arith, nat_tests))
      | false ↦ λ _. refl
    ] refl

-- two places have two workers
apart_places : (order : List ℕ) (places : List (Option ℕ)) (v w j k : ℕ) → ArePlaces order places → get_or places v None ≡ Some j → get_or places w None ≡ Some k → nat_eq v w ≡ false → nat_eq j k ≡ false
apart_places order places v w j k are e f differ =
    elim (nat_eq j k) as (λ b. nat_eq j k ≡ b → b ≡ false) [
      | true ↦ λ t.
          let same : j ≡ k = grind (arith, nat_tests) in
          let first = (are.in_order v j e).1 in
          let second = (are.in_order w k f).1 in
          let number : v ≡ w = sym first ∙ ap (λ i. get_or order i 0) same ∙ second in
          absurd (grind (arith, nat_tests))
      | false ↦ λ _. refl
    ] refl

left_in_order : (order : List ℕ) (places : List (Option ℕ)) (w k q j : ℕ) → Leaves order places w k
    → cond (nat_eq q w) None (cond (nat_eq q (last_of order)) (Some k) (get_or places q None)) ≡ Some j
    → (j < length (swap_remove order k w)) × (get_or (swap_remove order k w) j 0 ≡ q)
left_in_order order places w k q j h e =
    let bound = h.bound in
    let size = length-removed order k w bound in
    elim (nat_eq q w) as (λ b. nat_eq q w ≡ b → cond b None (cond (nat_eq q (last_of order)) (Some k) (get_or places q None)) ≡ Some j → (j < length (swap_remove order k w)) × (get_or (swap_remove order k w) j 0 ≡ q)) [
      | true ↦ λ _ f. absurd cc
      | false ↦ λ differ f.
          elim (nat_eq q (last_of order)) as (λ b. nat_eq q (last_of order) ≡ b → cond b (Some k) (get_or places q None) ≡ Some j → (j < length (swap_remove order k w)) × (get_or (swap_remove order k w) j 0 ≡ q)) [
            | true ↦ λ last g.
                let place : k ≡ j = cc in
                let less = not_last order places w k q h differ last in
                let number : q ≡ last_of order = grind (arith, nat_tests) in
                let test : nat_eq j k ≡ true = grind (arith, nat_tests) in
                (omega arith, get-removed order k w j bound (omega arith) ∙ ap (λ b. cond b (last_of order) (get_or order j 0)) test ∙ sym number)
            | false ↦ λ not_final g.
                let here = h.are.in_order q j g in
                let inside = here.0 in
                let value = here.1 in
                let other : nat_eq j k ≡ false = apart_places order places q w j k h.are g h.there differ in
                let unmoved : nat_eq j (length order - 1) ≡ false = apart_places order places q (last_of order) j (length order - 1) h.are g (last_place order places w k h) not_final in
                let less : j < length order - 1 = grind (arith, nat_tests) in
                (omega arith, get-removed order k w j bound less ∙ ap (λ b. cond b (last_of order) (get_or order j 0)) other ∙ value)
          ] refl f
    ] refl e

-- a place that is left as it was
same_place : (order : List ℕ) (places : List (Option ℕ)) (w k j : ℕ) → Leaves order places w k → j < length order → nat_eq j k ≡ false → j < length order - 1
    → get_or (places_without order places w k) (get_or order j 0) None ≡ Some j
same_place order places w k j h inside differ less =
    let there = h.there in
    let here = h.are.of_order j inside in
    let last = last_place order places w k h in
    let other : nat_eq (get_or order j 0) w ≡ false = apart places (get_or order j 0) w j k here there differ in
    let not_final : nat_eq j (length order - 1) ≡ false = grind (arith, nat_tests) in
    let unmoved : nat_eq (get_or order j 0) (last_of order) ≡ false = apart places (get_or order j 0) (last_of order) j (length order - 1) here last not_final in
    left_at order places w k (get_or order j 0) h ∙ rw (other, unmoved) here

pub places_left : (order : List ℕ) (places : List (Option ℕ)) (w k : ℕ) → Leaves order places w k → ArePlaces (swap_remove order k w) (places_without order places w k)
places_left order places w k h =
    let bound = h.bound in
    let size = length-removed order k w bound in
    record {
      of_order = λ j inside.
          let less : j < length order - 1 = omega arith in
          rw (get-removed order k w j bound less) (elim (nat_eq j k) as (λ b. nat_eq j k ≡ b → get_or (places_without order places w k) (cond b (last_of order) (get_or order j 0)) None ≡ Some j) [
            | true ↦ λ e.
                let same : j ≡ k = grind (arith, nat_tests) in
                let final : nat_eq (length order - 1) k ≡ false = grind (arith, nat_tests) in
                let other : nat_eq (last_of order) w ≡ false = apart places (last_of order) w (length order - 1) k (last_place order places w k h) h.there final in
                let itself : nat_eq (last_of order) (last_of order) ≡ true = grind (arith, nat_tests) in
                left_at order places w k (last_of order) h ∙ rw (other, itself) (ap (λ i. Some i) (sym same))
            | false ↦ λ e. same_place order places w k j h (omega arith) e less
          ] refl);
      in_order = λ q j e. left_in_order order places w k q j h (sym (left_at order places w k q h) ∙ e);
    }

-- ---- who is free afterwards
marked_after : (order : List ℕ) (marks : Numbers) (k j : ℕ)
    → set.contains (marks_without order marks k) j ≡ cond (nat_eq j (length order - 1)) false (cond (nat_eq j k) (set.contains marks (length order - 1)) (set.contains marks j))
marked_after order marks k j =
    contains-with_mark (with_mark marks k (set.contains marks (length order - 1))) (length order - 1) false j
    ∙ ap (cond (nat_eq j (length order - 1)) false) (contains-with_mark marks k (set.contains marks (length order - 1)) j)

-- the last one is free as before, at its new place
moved_mark : (order : List ℕ) (marks : Numbers) (k : ℕ) → k < length order - 1 → set.contains (marks_without order marks k) k ≡ set.contains marks (length order - 1)
moved_mark order marks k less =
    let final : nat_eq k (length order - 1) ≡ false = grind (arith, nat_tests) in
    let itself : nat_eq k k ≡ true = grind (arith, nat_tests) in
    marked_after order marks k k ∙ rw (final, itself) refl

same_mark : (order : List ℕ) (marks : Numbers) (k j : ℕ) → nat_eq j (length order - 1) ≡ false → nat_eq j k ≡ false → set.contains (marks_without order marks k) j ≡ set.contains marks j
same_mark order marks k j final other = marked_after order marks k j ∙ rw (final, other) refl

mark_after : (order : List ℕ) (places : List (Option ℕ)) (marks : Numbers) (w k q : ℕ) → Leaves order places w k
    → is_marked_at (marks_without order marks k) (cond (nat_eq q w) None (cond (nat_eq q (last_of order)) (Some k) (get_or places q None)))
    ≡ cond (nat_eq q w) false (is_marked_at marks (get_or places q None))
mark_after order places marks w k q h =
    elim (nat_eq q w) as (λ b. nat_eq q w ≡ b → is_marked_at (marks_without order marks k) (cond b None (cond (nat_eq q (last_of order)) (Some k) (get_or places q None))) ≡ cond b false (is_marked_at marks (get_or places q None))) [
      | true ↦ λ _. refl
      | false ↦ λ differ.
          elim (nat_eq q (last_of order)) as (λ b. nat_eq q (last_of order) ≡ b → is_marked_at (marks_without order marks k) (cond b (Some k) (get_or places q None)) ≡ is_marked_at marks (get_or places q None)) [
            | true ↦ λ last.
                let number : q ≡ last_of order = grind (arith, nat_tests) in
                moved_mark order marks k (not_last order places w k q h differ last)
                ∙ ap (is_marked_at marks) (sym (ap (λ v. get_or places v None) number ∙ last_place order places w k h))
            | false ↦ λ not_final.
                elim (get_or places q None) as (λ o. get_or places q None ≡ o → is_marked_at (marks_without order marks k) o ≡ is_marked_at marks o) [
                  | None ↦ λ _. refl
                  | Some j ↦ λ e.
                      let other = apart_places order places q w j k h.are e h.there differ in
                      let unmoved = apart_places order places q (last_of order) j (length order - 1) h.are e (last_place order places w k h) not_final in
                      same_mark order marks k j unmoved other
                ] refl
          ] refl
    ] refl

pub free_left : (order : List ℕ) (places : List (Option ℕ)) (marks : Numbers) (w k : ℕ) → Leaves order places w k
    → workers_at (swap_remove order k w) (marks_without order marks k) ≡ set.remove (workers_at order marks) w
free_left order places marks w k h =
    same_set nat_cmp_total nat_cmp-IsAntisymmetric _ _ (λ q.
    contains_at (swap_remove order k w) (places_without order places w k) (marks_without order marks k) (places_left order places w k h) q
    ∙ ap (is_marked_at (marks_without order marks k)) (left_at order places w k q h)
    ∙ mark_after order places marks w k q h
    ∙ ap (cond (nat_eq q w) false) (sym (contains_at order places marks h.are q))
    ∙ sym (contains-with_mark (workers_at order marks) w false q))

pub within_left : (order : List ℕ) (places : List (Option ℕ)) (marks : Numbers) (w k : ℕ) → Leaves order places w k → AreWithin marks order
    → AreWithin (marks_without order marks k) (swap_remove order k w)
within_left order places marks w k h within j e =
    let bound = h.bound in
    let size = length-removed order k w bound in
    let marked = sym (marked_after order marks k j) ∙ e in
    elim (nat_eq j (length order - 1)) as (λ b. nat_eq j (length order - 1) ≡ b → cond b false (cond (nat_eq j k) (set.contains marks (length order - 1)) (set.contains marks j)) ≡ true → j < length (swap_remove order k w)) [
      | true ↦ λ _ f. absurd (true≢false (sym f))
      | false ↦ λ final f.
          elim (nat_eq j k) as (λ b. nat_eq j k ≡ b → cond b (set.contains marks (length order - 1)) (set.contains marks j) ≡ true → j < length (swap_remove order k w)) [
            | true ↦ λ same _. let less : j < length order - 1 = grind (arith, nat_tests) in omega arith
            | false ↦ λ _ g. let here = within j g in let less : j < length order - 1 = grind (arith, nat_tests) in omega arith
          ] refl f
    ] refl marked
