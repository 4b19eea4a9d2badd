-- The order, the table of the places in it, and the set of the workers at the marked places.
use Rattle.std.proofs.Common.{◌≡◌, ◌≢◌, ℕ, zero, suc, ◌+◌, ◌<◌, ◌≤◌, Bool, true, false, true≢false, cond, List, [], ◌∷◌, ◌++◌, length, get_or, set as put, Option, Some, None, refl, sym, ap, ◌∙◌, arith, nat_eq, nat_lt, length-append, get_or-set_other, get_or-set_same}
use Rattle.std.specs.Prelude.{◌||◌, ◌==◌, is_none, is_some, map}
use Rattle.std.specs.List.{list_all, list_any, filter, position, range_with_len}
use Rattle.std.specs.Cmp.{nat_cmp_total}
use Rattle.std.specs.Ordering.{nat_cmp}
use Rattle.std.specs.FinSet as set
use Rattle.std.specs.FinSet.{nat_cmp-IsAntisymmetric, contains-empty, contains-from_list_nat, same_set}
use Rattle.std.proofs.lemmas.Bool.Decides.{nat_tests}
use Rattle.std.proofs.lemmas.List.{get_or_append_left}
use Rattle.std.proofs.lemmas.List.Sums.{position_or_len_is}
use Rattle.std.proofs.Math.Seq.{get_or-append_seam}
use Rattle.server_core.specs.Core.{in_order, place_of}
use Rattle.server_core.specs.Numbers.{Numbers, with_mark}
use Rattle.server_core.specs.Turns.{workers_at, ArePlaces, AreWithin}
use Rattle.server_core.proofs.Marks.{contains-with_mark}
use Rattle.server_core.proofs.Orders.{or_true}

-- whether the place that a worker has, if any, is marked
abbrev pub is_marked_at : Numbers → Option ℕ → Bool
is_marked_at marks None = false
is_marked_at marks (Some k) = set.contains marks k

both_ways : (a b : Bool) → (a ≡ true → b ≡ true) → (b ≡ true → a ≡ true) → a ≡ b
both_ways true b there back = sym (there refl)
both_ways false true there back = back refl
both_ways false false there back = refl

or_with : (a : Bool) → (a || true) ≡ true
or_with true = refl
or_with false = refl

-- a number among the first n from a on that passes p, and f of which is q
record Has (f : ℕ → ℕ) (p : ℕ → Bool) (a n q : ℕ) : Type 0 where
  at : ℕ
  low : a ≤ at
  high : at < a + n
  passes : p at ≡ true
  value : f at ≡ q

later : (f : ℕ → ℕ) (p : ℕ → Bool) (a n q : ℕ) → Has f p (a + 1) n q → Has f p a (suc n) q
later f p a n q h = let low = h.low in let high = h.high in record { at = h.at; low = omega arith; high = omega arith; passes = h.passes; value = h.value }

has_some : (f : ℕ → ℕ) (p : ℕ → Bool) (a n q : ℕ) → list_any (λ y. nat_eq y q) (map f (filter p (range_with_len a n))) ≡ true → Has f p a n q
has_some f p a zero q e = absurd (true≢false (sym e))
has_some f p a (suc n) q e =
    elim (p a) as (λ b. p a ≡ b → list_any (λ y. nat_eq y q) (map f (cond b (a ∷ filter p (range_with_len (a + 1) n)) (filter p (range_with_len (a + 1) n)))) ≡ true → Has f p a (suc n) q) [
      | true ↦ λ passes g.
          elim (nat_eq (f a) q) as (λ b. nat_eq (f a) q ≡ b → Has f p a (suc n) q) [
            | true ↦ λ same. record { at = a; low = omega arith; high = omega arith; passes = passes; value = grind (arith, nat_tests) }
            | false ↦ λ other. later f p a n q (has_some f p (a + 1) n q (or_true (nat_eq (f a) q) _ g other))
          ] refl
      | false ↦ λ _ g. later f p a n q (has_some f p (a + 1) n q g)
    ] refl e

some_has : (f : ℕ → ℕ) (p : ℕ → Bool) (a n k : ℕ) → a ≤ k → k < a + n → p k ≡ true → list_any (λ y. nat_eq y (f k)) (map f (filter p (range_with_len a n))) ≡ true
some_has f p a zero k low high passes = absurd (omega arith)
some_has f p a (suc n) k low high passes =
    elim (nat_eq a k) as (λ b. nat_eq a k ≡ b → list_any (λ y. nat_eq y (f k)) (map f (filter p (range_with_len a (suc n)))) ≡ true) [
      | true ↦ λ e.
          let same : a ≡ k = grind (arith, nat_tests) in
          let here : p a ≡ true = ap p same ∙ passes in
          let equal : nat_eq (f a) (f k) ≡ true = let value : f a ≡ f k = ap f same in grind (arith, nat_tests) in
          rw (here, equal) refl
      | false ↦ λ e.
          let less : a + 1 ≤ k = grind (arith, nat_tests) in
          let rest = some_has f p (a + 1) n k less (omega arith) passes in
          elim (p a) as (λ b. list_any (λ y. nat_eq y (f k)) (map f (cond b (a ∷ filter p (range_with_len (a + 1) n)) (filter p (range_with_len (a + 1) n)))) ≡ true) [
            | true ↦ rw rest (or_with (nat_eq (f a) (f k)))
            | false ↦ rest
          ]
    ] refl

-- ---- who is free
-- a worker is free exactly where its place is marked
pub contains_at : (order : List ℕ) (places : List (Option ℕ)) (marks : Numbers) → ArePlaces order places
    → (q : ℕ) → set.contains (workers_at order marks) q ≡ is_marked_at marks (get_or places q None)
contains_at order places marks are q =
    contains-from_list_nat _ q
    ∙ elim (get_or places q None) as (λ o. get_or places q None ≡ o → list_any (λ y. nat_eq y q) (map (λ k. get_or order k 0) (filter (λ k. set.contains marks k) (range_with_len 0 (length order)))) ≡ is_marked_at marks o) [
      | None ↦ λ e. both_ways _ _ (λ t.
          let there = has_some (λ k. get_or order k 0) (λ k. set.contains marks k) 0 (length order) q t in
          let value = there.value in
          let high = there.high in
          let place = are.of_order there.at (omega arith) in
          absurd (cc (place, e, value))) (λ f. absurd (true≢false (sym f)))
      | Some k ↦ λ e. both_ways _ _ (λ t.
          let there = has_some (λ k. get_or order k 0) (λ k. set.contains marks k) 0 (length order) q t in
          let value = there.value in
          let high = there.high in
          let place = are.of_order there.at (omega arith) in
          let same : there.at ≡ k = cc (place, e, value) in
          ap (set.contains marks) (sym same) ∙ there.passes)
          (λ t.
          let here = are.in_order q k e in
          rw (← here.1) (some_has (λ k. get_or order k 0) (λ k. set.contains marks k) 0 (length order) k (omega arith) (omega arith) t))
    ] refl

-- ---- places
elsewhere : (order : List ℕ) (places : List (Option ℕ)) (w j : ℕ) → ArePlaces order places → j < length order → get_or places w None ≢ Some j → nat_eq (get_or order j 0) w ≡ false
elsewhere order places w j are inside differ =
    elim (nat_eq (get_or order j 0) w) as (λ b. nat_eq (get_or order j 0) w ≡ b → b ≡ false) [
      | true ↦ λ e. let same : get_or order j 0 ≡ w = grind (arith, nat_tests) in absurd (differ (ap (λ v. get_or places v None) (sym same) ∙ are.of_order j inside))
      | false ↦ λ _. refl
    ] refl

pub place_at : (order : List ℕ) (places : List (Option ℕ)) (w k : ℕ) → ArePlaces order places → get_or places w None ≡ Some k → place_of order w ≡ k
place_at order places w k are e =
    let here = are.in_order w k e in
    let inside = here.0 in
    let value = here.1 in
    position_or_len_is (λ x. x == w) order k 0 (omega arith)
    (λ j less. elsewhere order places w j are (omega arith) (λ f. let same : k ≡ j = cc (e, f) in absurd (omega arith)))
    (λ _. grind (arith, nat_tests))

place_past : (order : List ℕ) (places : List (Option ℕ)) (w : ℕ) → ArePlaces order places → get_or places w None ≡ None → place_of order w ≡ length order
place_past order places w are e =
    position_or_len_is (λ x. x == w) order (length order) 0 (omega arith)
    (λ j less. elsewhere order places w j are less (λ f. absurd (cc (e, f))))
    (λ h. absurd (omega arith))

-- what the table has at w is the place of w in the order
pub place_is : (order : List ℕ) (places : List (Option ℕ)) → ArePlaces order places → (w : ℕ) → get_or places w None ≡ position (λ x. x == w) order
place_is order places are w =
    elim (get_or places w None) as (λ o. get_or places w None ≡ o → o ≡ cond (nat_lt (place_of order w) (length order)) (Some (place_of order w)) None) [
      | None ↦ λ e.
          let past = place_past order places w are e in
          let test : nat_lt (place_of order w) (length order) ≡ false = grind (arith, nat_tests) in
          rw test refl
      | Some k ↦ λ e.
          let inside = (are.in_order w k e).0 in
          let there = place_at order places w k are e in
          let test : nat_lt (place_of order w) (length order) ≡ true = grind (arith, nat_tests) in
          rw (test, there) refl
    ] refl

pub placed_in : (order : List ℕ) (w : ℕ) → is_some (position (λ x. x == w) order) ≡ in_order order w
placed_in [] w = refl
placed_in (x ∷ order) w =
    let rest = placed_in order w in
    elim (x == w) as (λ b. (x == w) ≡ b → is_some (position (λ y. y == w) (x ∷ order)) ≡ (b || in_order order w)) [
      | true ↦ λ e. grind (arith, nat_tests)
      | false ↦ λ e. grind (arith, nat_tests)
    ] refl

-- ---- one mark changes
one_changed : (marks : Numbers) (k : ℕ) (mark : Bool) (o : Option ℕ) (b : Bool) → (b ≡ true → o ≡ Some k) → (b ≡ false → o ≢ Some k)
    → is_marked_at (with_mark marks k mark) o ≡ cond b mark (is_marked_at marks o)
one_changed marks k mark None true same other = absurd (cc (same refl))
one_changed marks k mark None false same other = refl
one_changed marks k mark (Some j) true same other =
    let equal : j ≡ k = cc (same refl) in
    let test : nat_eq j k ≡ true = grind (arith, nat_tests) in
    contains-with_mark marks k mark j ∙ ap (λ b. cond b mark (set.contains marks j)) test
one_changed marks k mark (Some j) false same other =
    let differ : j ≢ k = λ e. other refl (ap (λ i. Some i) e) in
    let test : nat_eq j k ≡ false = grind (arith, nat_tests) in
    contains-with_mark marks k mark j ∙ ap (λ b. cond b mark (set.contains marks j)) test

one_place : (order : List ℕ) (places : List (Option ℕ)) (w k q : ℕ) → ArePlaces order places → get_or places w None ≡ Some k → nat_eq q w ≡ false → get_or places q None ≢ Some k
one_place order places w k q are e differ f =
    let there = (are.in_order w k e).1 in
    let here = (are.in_order q k f).1 in
    let same : q ≡ w = cc (there, here) in
    absurd (grind (arith, nat_tests))

marked_there : (order : List ℕ) (places : List (Option ℕ)) (marks : Numbers) (w k : ℕ) (mark : Bool) (q : ℕ) → ArePlaces order places → get_or places w None ≡ Some k
    → is_marked_at (with_mark marks k mark) (get_or places q None) ≡ cond (nat_eq q w) mark (is_marked_at marks (get_or places q None))
marked_there order places marks w k mark q are e =
    one_changed marks k mark (get_or places q None) (nat_eq q w)
    (λ t. let same : q ≡ w = grind (arith, nat_tests) in ap (λ v. get_or places v None) same ∙ e)
    (λ t. one_place order places w k q are e t)

pub mark_changed : (order : List ℕ) (places : List (Option ℕ)) (marks : Numbers) (w k : ℕ) (mark : Bool) → ArePlaces order places → get_or places w None ≡ Some k
    → workers_at order (with_mark marks k mark) ≡ with_mark (workers_at order marks) w mark
mark_changed order places marks w k mark are e =
    same_set nat_cmp_total nat_cmp-IsAntisymmetric _ _ (λ q.
    contains_at order places (with_mark marks k mark) are q
    ∙ marked_there order places marks w k mark q are e
    ∙ ap (cond (nat_eq q w) mark) (sym (contains_at order places marks are q))
    ∙ sym (contains-with_mark (workers_at order marks) w mark q))

-- ---- no worker
nothing_at : (places : List (Option ℕ)) → list_all is_none places ≡ true → (w : ℕ) → get_or places w None ≡ None
nothing_at [] e w = refl
nothing_at (None ∷ places) e zero = refl
nothing_at (None ∷ places) e (suc w) = nothing_at places e w
nothing_at (Some k ∷ places) e w = absurd (true≢false (sym e))

pub sound_none : (order : List ℕ) (places : List (Option ℕ)) (marks : Numbers) → order ≡ [] → list_all is_none places ≡ true → marks ≡ set.empty
    → (length order ≤ 512) × ArePlaces order places × AreWithin marks order
sound_none order places marks empty none unmarked =
    let size : length order ≡ 0 = ap length empty in (
      omega arith,
      record {
        of_order = λ k inside. absurd (omega arith);
        in_order = λ w k e. absurd (cc (e, nothing_at places none w));
      },
      λ k e. absurd (true≢false (sym e ∙ ap (λ s. set.contains s k) unmarked ∙ contains-empty nat_cmp k)),
    )

-- ---- what a place of the order says
pub placed_at : (order : List ℕ) (places : List (Option ℕ)) (w k : ℕ) → ArePlaces order places → Some k ≡ position (λ x. x == w) order → get_or places w None ≡ Some k
placed_at order places w k are e = place_is order places are w ∙ sym e

pub stands : (order : List ℕ) (w k : ℕ) → Some k ≡ position (λ x. x == w) order → in_order order w ≡ true
stands order w k e = sym (placed_in order w) ∙ ap is_some (sym e)

pub stands_not : (order : List ℕ) (w : ℕ) → None ≡ position (λ x. x == w) order → in_order order w ≡ false
stands_not order w e = sym (placed_in order w) ∙ ap is_some (sym e)

-- a marked place lies in the order
pub within_changed : (marks : Numbers) (order : List ℕ) (k : ℕ) (mark : Bool) → k < length order → AreWithin marks order → AreWithin (with_mark marks k mark) order
within_changed marks order k mark inside within j e =
    elim (nat_eq j k) as (λ b. nat_eq j k ≡ b → j < length order) [
      | true ↦ λ t. grind (arith, nat_tests)
      | false ↦ λ t. within j (sym (contains-with_mark marks k mark j ∙ ap (λ b. cond b mark (set.contains marks j)) t) ∙ e)
    ] refl

-- a worker out of order is not free
pub not_free : (order : List ℕ) (places : List (Option ℕ)) (marks : Numbers) (w : ℕ) → ArePlaces order places → None ≡ position (λ x. x == w) order
    → set.remove (workers_at order marks) w ≡ workers_at order marks
not_free order places marks w are e =
    same_set nat_cmp_total nat_cmp-IsAntisymmetric _ _ (λ q.
    contains-with_mark (workers_at order marks) w false q
    ∙ elim (nat_eq q w) as (λ b. nat_eq q w ≡ b → cond b false (set.contains (workers_at order marks) q) ≡ set.contains (workers_at order marks) q) [
      | true ↦ λ t.
          let same : q ≡ w = grind (arith, nat_tests) in
          sym (contains_at order places marks are q ∙ ap (λ v. is_marked_at marks (get_or places v None)) same ∙ ap (is_marked_at marks) (place_is order places are w ∙ sym e))
      | false ↦ λ _. refl
    ] refl)

-- ---- one more worker at the end
nowhere : (order : List ℕ) (places : List (Option ℕ)) (w : ℕ) → ArePlaces order places → in_order order w ≡ false → get_or places w None ≡ None
nowhere order places w are out =
    elim (get_or places w None) as (λ o. get_or places w None ≡ o → o ≡ None) [
      | None ↦ λ _. refl
      | Some k ↦ λ e. absurd (true≢false (ap is_some (sym e ∙ place_is order places are w) ∙ placed_in order w ∙ out))
    ] refl

-- what the table has at q, once w has a place in it
pub put_place : (places : List (Option ℕ)) (w q : ℕ) (o : Option ℕ) → w < length places → get_or (put places w o) q None ≡ cond (nat_eq q w) o (get_or places q None)
put_place places w q o inside =
    elim (nat_eq q w) as (λ b. nat_eq q w ≡ b → get_or (put places w o) q None ≡ cond b o (get_or places q None)) [
      | true ↦ λ e. let same : q ≡ w = grind (arith, nat_tests) in ap (λ v. get_or (put places w o) v None) same ∙ get_or-set_same places w o None inside
      | false ↦ λ e. let differ : q ≢ w = grind (arith, nat_tests) in get_or-set_other places w q o None differ
    ] refl

pub places_added : (order : List ℕ) (places : List (Option ℕ)) (w : ℕ) → ArePlaces order places → in_order order w ≡ false → w < length places
    → ArePlaces (order ++ w ∷ []) (put places w (Some (length order)))
places_added order places w are out inside = record {
  of_order = λ k less.
      let size : length (order ++ w ∷ []) ≡ length order + 1 = length-append order (w ∷ []) in
      elim (nat_lt k (length order)) as (λ b. nat_lt k (length order) ≡ b → get_or (put places w (Some (length order))) (get_or (order ++ w ∷ []) k 0) None ≡ Some k) [
        | true ↦ λ t.
            let below : k < length order = grind (arith, nat_tests) in
            let there = are.of_order k below in
            let other : nat_eq (get_or order k 0) w ≡ false = elsewhere order places w k are below (λ e. absurd (cc (e, nowhere order places w are out))) in
            rw get_or_append_left (put_place places w (get_or order k 0) (Some (length order)) inside ∙ ap (λ b. cond b (Some (length order)) (get_or places (get_or order k 0) None)) other ∙ there)
        | false ↦ λ t.
            let last : k ≡ length order = grind (arith, nat_tests) in
            rw (last, get_or-append_seam) (get_or-set_same places w (Some (length order)) None inside)
      ] refl;
  in_order = λ q k e.
      let found = sym (put_place places w q (Some (length order)) inside) ∙ e in
      let size : length (order ++ w ∷ []) ≡ length order + 1 = length-append order (w ∷ []) in
      elim (nat_eq q w) as (λ b. nat_eq q w ≡ b → cond b (Some (length order)) (get_or places q None) ≡ Some k → (k < length (order ++ w ∷ [])) × (get_or (order ++ w ∷ []) k 0 ≡ q)) [
        | true ↦ λ t f.
            let same : q ≡ w = grind (arith, nat_tests) in
            let last : length order ≡ k = cc in
            (omega arith, rw (← last, get_or-append_seam) (sym same))
        | false ↦ λ _ f.
            let here = are.in_order q k f in
            let below = here.0 in
            (omega arith, rw get_or_append_left here.1)
      ] refl found;
}

same_number : (n : ℕ) (b : Bool) → cond (nat_eq n n) true b ≡ true
same_number n b = let same : nat_eq n n ≡ true = grind (arith, nat_tests) in ap (λ t. cond t true b) same

pub free_added : (order : List ℕ) (places : List (Option ℕ)) (marks : Numbers) (w : ℕ) → ArePlaces order places → AreWithin marks order → in_order order w ≡ false → w < length places
    → workers_at (order ++ w ∷ []) (set.insert marks (length order)) ≡ set.insert (workers_at order marks) w
free_added order places marks w are within out inside =
    same_set nat_cmp_total nat_cmp-IsAntisymmetric _ _ (λ q.
    contains_at (order ++ w ∷ []) (put places w (Some (length order))) (set.insert marks (length order)) (places_added order places w are out inside) q
    ∙ ap (is_marked_at (set.insert marks (length order))) (put_place places w q (Some (length order)) inside)
    ∙ elim (nat_eq q w) as (λ b. nat_eq q w ≡ b → is_marked_at (set.insert marks (length order)) (cond b (Some (length order)) (get_or places q None)) ≡ cond b true (set.contains (workers_at order marks) q)) [
      | true ↦ λ _. contains-with_mark marks (length order) true (length order) ∙ same_number (length order) (set.contains marks (length order))
      | false ↦ λ _.
          elim (get_or places q None) as (λ o. get_or places q None ≡ o → is_marked_at (set.insert marks (length order)) o ≡ is_marked_at marks o) [
            | None ↦ λ _. refl
            | Some k ↦ λ e.
                let below = (are.in_order q k e).0 in
                let differ : nat_eq k (length order) ≡ false = grind (arith, nat_tests) in
                contains-with_mark marks (length order) true k ∙ ap (λ b. cond b true (set.contains marks k)) differ
          ] refl
          ∙ sym (contains_at order places marks are q)
    ] refl
    ∙ sym (contains-with_mark (workers_at order marks) w true q))

pub within_added : (order : List ℕ) (marks : Numbers) (w : ℕ) → AreWithin marks order → AreWithin (set.insert marks (length order)) (order ++ w ∷ [])
within_added order marks w within k e =
    let size : length (order ++ w ∷ []) ≡ length order + 1 = length-append order (w ∷ []) in
    elim (nat_eq k (length order)) as (λ b. nat_eq k (length order) ≡ b → k < length (order ++ w ∷ [])) [
      | true ↦ λ t. grind (arith, nat_tests)
      | false ↦ λ t. let here = within k (sym (contains-with_mark marks (length order) true k ∙ ap (λ b. cond b true (set.contains marks k)) t) ∙ e) in omega arith
    ] refl
