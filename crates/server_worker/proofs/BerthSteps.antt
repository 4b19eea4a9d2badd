-- Where those live connections stand that rest.
use Rattle.std.proofs.Common.{◌≡◌, ◌<◌, ◌≤◌, ◌⊎◌, ℕ, zero, suc, ◌+◌, Option, Some, None, List, [], ◌∷◌, length, take, set, get_or, All, refl, sym, ◌∙◌, ap, subst, arith, inl, inr}
use Rattle.std.specs.Prelude.{slice_get}
use Rattle.std.specs.List.{swap}
use Rattle.std.proofs.Math.Seq.{take-length}
use Rattle.std.proofs.lemmas.Bool.{cases_eq}
use Rattle.std.proofs.Math.ListN.{length-set}
use Rattle.std.proofs.lemmas.List.{get_or-take, length-take}
use Rattle.std.proofs.lemmas.List.Edits.{swap_is}
use Rattle.std.proofs.lemmas.Option.{get_or_from_slice_get, none-some, slice_get-get_or, slice_get_within}
use Rattle.server_worker.proofs.Places.{any_default}
use Rattle.server_worker.specs.Waited.{AreAmong, AreBerthed, KeepsOthers, NoneWaitsFor, NoneWaitsForAny, berth_of}
use Rattle.server_worker.specs.declared.live.Live.{Live}

-- ---- places of a list
module _ {X : Type 0} where
  set_at : (xs : List X) (at : ℕ) (x : X) → at < length xs → slice_get (set xs at x) at ≡ Some x
  set_at [] at x inside = absurd (omega (arith, inside))
  set_at (y ∷ ys) zero x inside = refl
  set_at (y ∷ ys) (suc at) x inside = set_at ys at x (omega (arith, inside))

  set_beside : (xs : List X) (at k : ℕ) (x : X) → (k ≡ at → ⊥) → slice_get (set xs at x) k ≡ slice_get xs k
  set_beside [] at k x other = refl
  set_beside (y ∷ ys) zero zero x other = absurd (other refl)
  set_beside (y ∷ ys) zero (suc k) x other = refl
  set_beside (y ∷ ys) (suc at) zero x other = refl
  set_beside (y ∷ ys) (suc at) (suc k) x other = set_beside ys at k x (λ same. other (ap (λ n. suc n) same))

  taken_at : (many k : ℕ) (xs : List X) → k < many → slice_get (take many xs) k ≡ slice_get xs k
  taken_at zero k xs inside = absurd (omega (arith, inside))
  taken_at (suc many) k [] inside = refl
  taken_at (suc many) zero (x ∷ xs) inside = refl
  taken_at (suc many) (suc k) (x ∷ xs) inside = taken_at many k xs (omega (arith, inside))

  taken_within : (many k : ℕ) (xs : List X) (x : X) → slice_get (take many xs) k ≡ Some x → k < many
  taken_within many k xs x is = omega (arith, slice_get_within (take many xs) k x is, length-take many xs)

  -- two of them changed places: another one, and each of these
  swapped_beside : (xs : List X) (i j k : ℕ) (d : X) → i < length xs → j < length xs → (k ≡ i → ⊥) → (k ≡ j → ⊥) → slice_get (swap xs i j) k ≡ slice_get xs k
  swapped_beside xs i j k d one two not_one not_two =
      ap (λ ys. slice_get ys k) (sym (swap_is xs i j d one two)) ∙ set_beside (set xs i (get_or xs j d)) j k (get_or xs i d) not_two ∙ set_beside xs i k (get_or xs j d) not_one

  -- what holds at each place holds of all
  pub all_at : (P : X → Type 0) (xs : List X) → ((k : ℕ) (x : X) → slice_get xs k ≡ Some x → P x) → All P xs
  all_at P xs each k d inside = each k (get_or xs k d) (slice_get-get_or xs k d inside)

number_of : Option ℕ → ℕ
number_of None = 0
number_of (Some n) = n

some_number : {a b : ℕ} → ◌≡◌ {A = Option ℕ} (Some a) (Some b) → a ≡ b
unfolding number_of
some_number same = ap number_of same

-- two things that stand at one place
one_at : {X : Type 0} (xs : List X) (k : ℕ) (x y : X) → slice_get xs k ≡ Some x → slice_get xs k ≡ Some y → x ≡ y
one_at xs k x y one other = sym (get_or_from_slice_get xs k x x one) ∙ get_or_from_slice_get xs k y x other

-- another berth is changed, or none
berth_beside : (berths after : List ℕ) (slot : Option ℕ) → KeepsOthers berths after slot → (k : ℕ) (o : Option ℕ) → ((s : ℕ) → slot ≡ Some s → o ≡ Some s → ⊥) → berth_of berths o ≡ Some k → berth_of after o ≡ Some k
berth_beside berths after slot keeps k None other held = held
berth_beside berths after slot keeps k (Some s) other held = keeps s k (λ is. other s is refl) held

module _ {L Fut : Type 0} where
  -- fewer of them rest
  pub berthed_less : (berths : List ℕ) (few many : ℕ) (xs : List (Live L Fut)) → few ≤ many → AreBerthed berths (take many xs) → AreBerthed berths (take few xs)
  berthed_less berths few many xs fewer berthed at c is =
      let inside : at < few = taken_within few at xs c is in
      berthed at c (taken_at many at xs (omega (arith, inside, fewer)) ∙ sym (taken_at few at xs inside) ∙ is)

  -- the berth of a slot is changed for which none of them waits
  berthed_beside : (berths after : List ℕ) (rested : List (Live L Fut)) (slot : ℕ) → KeepsOthers berths after (Some slot) → NoneWaitsFor slot rested → AreBerthed berths rested → AreBerthed after rested
  berthed_beside berths after rested slot keeps none berthed k c is =
      berth_beside berths after (Some slot) keeps k c.slot (λ s same waits. none k c is (waits ∙ sym same)) (berthed k c is)

  -- no berth is changed
  pub berthed_same : (berths after : List ℕ) (rested : List (Live L Fut)) → KeepsOthers berths after None → AreBerthed berths rested → AreBerthed after rested
  berthed_same berths after rested keeps berthed k c is = berth_beside berths after None keeps k c.slot (λ s same waits. none-some s same) (berthed k c is)

  pub all_among : (P : Live L Fut → Type 0) (these those : List (Live L Fut)) → AreAmong these those → All P those → All P these
  all_among P these those among all = all_at P these (λ k c found.
      let there = (among k c found).1 in
      subst P (get_or_from_slice_get those (among k c found).0 c c there) (all (among k c found).0 c (slice_get_within those (among k c found).0 c there)))

  -- none waits for a slot at which no place stands
  pub none_without : (berths : List ℕ) (rested : List (Live L Fut)) (slot : ℕ) → AreBerthed berths rested → slice_get berths slot ≡ None → NoneWaitsFor slot rested
  none_without berths rested slot berthed none k c found waits = none-some k (sym none ∙ ap (berth_of berths) (sym waits) ∙ berthed k c found)

  -- nor for one where the one at its place doesn't
  pub none_beside : (berths : List ℕ) (many : ℕ) (xs : List (Live L Fut)) (slot at : ℕ) → AreBerthed berths (take many xs) → slice_get berths slot ≡ Some at
      → ((c : Live L Fut) → at < many → slice_get xs at ≡ Some c → c.slot ≡ Some slot → ⊥) → NoneWaitsFor slot (take many xs)
  none_beside berths many xs slot at berthed stands other k c found waits =
      let low : k < many = taken_within many k xs c found in
      let one : k ≡ at = some_number (sym (ap (berth_of berths) (sym waits) ∙ berthed k c found) ∙ stands) in
      other c (omega (arith, low, one)) (ap (λ n. slice_get xs n) (sym one) ∙ sym (taken_at many k xs low) ∙ found) waits

  -- two of the others changed places
  berthed_behind : (berths : List ℕ) (many : ℕ) (xs : List (Live L Fut)) (i j : ℕ) → i < length xs → j < length xs → many ≤ i → many ≤ j
      → AreBerthed berths (take many xs) → AreBerthed berths (take many (swap xs i j))
  berthed_behind berths many xs i j one two first second berthed k c is =
      let inside : k < many = taken_within many k (swap xs i j) c is in
      berthed k c (taken_at many k xs inside ∙ sym (swapped_beside xs i j k c one two (λ same. omega (arith, same, inside, first)) (λ same. omega (arith, same, inside, second)))
      ∙ sym (taken_at many k (swap xs i j) inside) ∙ is)

  -- one more rests, at its berth
  berthed_more : (berths : List ℕ) (many : ℕ) (xs : List (Live L Fut)) (last : Live L Fut) (slot : ℕ) → slice_get xs many ≡ Some last → last.slot ≡ Some slot → slice_get berths slot ≡ Some many
      → AreBerthed berths (take many xs) → AreBerthed berths (take (many + 1) xs)
  berthed_more berths many xs last slot is waits at_last berthed k c found =
      let inside : k < many + 1 = taken_within (many + 1) k xs c found in
      let there : slice_get xs k ≡ Some c = sym (taken_at (many + 1) k xs inside) ∙ found in
      elim (cases_eq k many) [
        | inl same ↦
            let one : c ≡ last = one_at xs many c last (ap (λ n. slice_get xs n) (sym same) ∙ there) is in
            ap (berth_of berths) (ap (λ x. x.slot) one ∙ waits) ∙ at_last ∙ ap (λ n. Some n) (sym same)
        | inr other ↦ berthed k c (taken_at many k xs (omega (arith, inside, other)) ∙ there)
      ]

  -- none waits for a slot of an empty list
  pub heard_none : (slots : List ℕ) (these : List (Live L Fut)) → NoneWaitsForAny (take 0 slots) these
  heard_none slots these k c found slot waits has = omega (arith, has.1)

  -- nor for one of a list that is longer by one
  pub heard_more : (slots : List ℕ) (many slot d : ℕ) (these those : List (Live L Fut)) → many < length slots → get_or slots many d ≡ slot → NoneWaitsForAny (take many slots) those
      → AreAmong these those → NoneWaitsFor slot these → NoneWaitsForAny (take (many + 1) slots) these
  heard_more slots many slot d these those inside last before among none k c found s waits has =
      let low : has.0 < many + 1 = omega (arith, has.1, length-take (many + 1) slots) in
      let there : get_or slots has.0 s ≡ s = sym (get_or-take (many + 1) slots has.0 s low) ∙ has.2 in
      elim (cases_eq has.0 many) [
        | inl same ↦ none k c found (waits ∙ ap (λ n. Some n) (sym there ∙ ap (λ n. get_or slots n s) same ∙ any_default slots many s d inside ∙ last))
        | inr other ↦
            let small : has.0 < many = omega (arith, low, other) in
            before (among k c found).0 c (among k c found).1 s waits (has.0, omega (arith, small, inside, length-take many slots), get_or-take many slots has.0 s small ∙ there)
      ]

  pub heard_all : (slots : List ℕ) (these : List (Live L Fut)) → NoneWaitsForAny (take (length slots) slots) these → NoneWaitsForAny slots these
  heard_all slots these none = subst (λ s. NoneWaitsForAny s these) (take-length slots) none

-- what stands at the first of two that changed places
module _ {X : Type 0} where
  swapped_first : (xs : List X) (i j : ℕ) (d : X) → i < length xs → j < length xs → slice_get (swap xs i j) i ≡ slice_get xs j
  swapped_first xs i j d one two = elim (cases_eq i j) [
    | inl same ↦ ap (λ ys. slice_get ys i) (sym (swap_is xs i j d one two)) ∙ ap (λ n. slice_get (set (set xs i (get_or xs j d)) n (get_or xs i d)) i) (sym same)
        ∙ set_at (set xs i (get_or xs j d)) i (get_or xs i d) (rw (length-set xs i (get_or xs j d)) one) ∙ sym (slice_get-get_or xs i d one) ∙ ap (λ n. slice_get xs n) same
    | inr other ↦ ap (λ ys. slice_get ys i) (sym (swap_is xs i j d one two)) ∙ set_beside (set xs i (get_or xs j d)) j i (get_or xs i d) other
        ∙ set_at xs i (get_or xs j d) one ∙ sym (slice_get-get_or xs j d two)
  ]

-- one that rests is called up, and the last that rests takes its place
module _ {L Fut : Type 0} (berths : List ℕ) (xs : List (Live L Fut)) (at many : ℕ) (last : Live L Fut) (within : at ≤ many) (inside : many < length xs)
    (is : slice_get xs many ≡ Some last) (berthed : AreBerthed berths (take (many + 1) xs)) where
  berth_at : (k slot : ℕ) (c : Live L Fut) → k ≤ many → slice_get xs k ≡ Some c → c.slot ≡ Some slot → slice_get berths slot ≡ Some k
  berth_at k slot c low found waits = ap (berth_of berths) (sym waits) ∙ berthed k c (taken_at (many + 1) k xs (omega (arith, low)) ∙ found)

  stood : (k : ℕ) (c : Live L Fut) → slice_get (take many (swap xs at many)) k ≡ Some c → ((k ≡ at) × (c ≡ last)) ⊎ ((k ≡ at → ⊥) × (k < many) × (slice_get xs k ≡ Some c))
  stood k c found =
      let low : k < many = taken_within many k (swap xs at many) c found in
      let there : slice_get (swap xs at many) k ≡ Some c = sym (taken_at many k (swap xs at many) low) ∙ found in
      let first : at < length xs = omega (arith, within, inside) in
      elim (cases_eq k at) [
        | inl same ↦ inl (same, one_at xs many c last (sym (swapped_first xs at many last first inside) ∙ ap (λ n. slice_get (swap xs at many) n) (sym same) ∙ there) is)
        | inr other ↦ inr (other, low, sym (swapped_beside xs at many k last first inside other (λ same. omega (arith, same, low))) ∙ there)
      ]

  called_none : (slot : ℕ) → last.slot ≡ Some slot → NoneWaitsFor slot (take many xs)
  called_none slot waits k c found holds =
      let low : k < many = taken_within many k xs c found in
      let one : k ≡ many = some_number (sym (berth_at k slot c (omega (arith, low)) (sym (taken_at many k xs low) ∙ found) holds) ∙ berth_at many slot last (omega arith) is waits) in
      omega (arith, one, low)

  pub called_among : AreAmong (take many (swap xs at many)) (take (many + 1) xs)
  called_among k c found = elim (stood k c found) [
    | inl one ↦ (many, taken_at (many + 1) many xs (omega arith) ∙ is ∙ ap (λ x. Some x) (sym one.1))
    | inr other ↦ (k, taken_at (many + 1) k xs (omega (arith, other.1)) ∙ other.2)
  ]

  pub called_left : (slot : ℕ) → slice_get berths slot ≡ Some at → NoneWaitsFor slot (take many (swap xs at many))
  called_left slot at_berth k c found waits = elim (stood k c found) [
    | inl one ↦
        let same : many ≡ at = some_number (sym (berth_at many slot last (omega arith) is (ap (λ x. x.slot) (sym one.1) ∙ waits)) ∙ at_berth) in
        omega (arith, same, one.0, taken_within many k (swap xs at many) c found)
    | inr other ↦ other.0 (some_number (sym (berth_at k slot c (omega (arith, other.1)) other.2 waits) ∙ at_berth))
  ]

  -- the berth of the last was changed before
  called_berthed : (after : List ℕ) (slot : ℕ) → last.slot ≡ Some slot → slice_get after slot ≡ Some at → AreBerthed after (take many xs) → AreBerthed after (take many (swap xs at many))
  called_berthed after slot waits at_berth berthed_after k c found = elim (stood k c found) [
    | inl one ↦ ap (berth_of after) (ap (λ x. x.slot) one.1 ∙ waits) ∙ at_berth ∙ ap (λ n. Some n) (sym one.0)
    | inr other ↦ berthed_after k c (taken_at many k xs other.1 ∙ other.2)
  ]

  pub called_all : (after : List ℕ) → ((slot : ℕ) → last.slot ≡ Some slot → slot < length berths → (slice_get after slot ≡ Some at) × KeepsOthers berths after last.slot)
      → AreBerthed after (take many (swap xs at many))
  called_all after moved = go last.slot refl (berthed many last (taken_at (many + 1) many xs (omega arith) ∙ is))
    where
      go : (o : Option ℕ) → last.slot ≡ o → berth_of berths o ≡ Some many → AreBerthed after (take many (swap xs at many))
      go None none held = absurd (none-some many held)
      go (Some slot) waits held =
          let set = moved slot waits (slice_get_within berths slot many held) in
          let before : AreBerthed berths (take many xs) = berthed_less berths many (many + 1) xs (omega arith) berthed in
          called_berthed after slot waits set.0 (berthed_beside berths after (take many xs) slot (subst (KeepsOthers berths after) waits set.1) (called_none slot waits) before)

-- one that is due goes to those that rest
module _ {L Fut : Type 0} (xs : List (Live L Fut)) (many at : ℕ) (one : Live L Fut) (behind : many ≤ at) (inside : at < length xs) (is : slice_get xs at ≡ Some one) where
  pub settled_all : (P : Live L Fut → Type 0) → P one → All P (take many xs) → All P (take (many + 1) (swap xs many at))
  settled_all P holds all = all_at P (take (many + 1) (swap xs many at)) (λ k c found.
      let low : k < many + 1 = taken_within (many + 1) k (swap xs many at) c found in
      let there : slice_get (swap xs many at) k ≡ Some c = sym (taken_at (many + 1) k (swap xs many at) low) ∙ found in
      let first : many < length xs = omega (arith, behind, inside) in
      elim (cases_eq k many) [
        | inl same ↦ subst P (one_at xs at one c is (sym (swapped_first xs many at one first inside) ∙ ap (λ n. slice_get (swap xs many at) n) (sym same) ∙ there)) holds
        | inr other ↦
            let small : k < many = omega (arith, low, other) in
            let stood : slice_get (take many xs) k ≡ Some c = taken_at many k xs small ∙ sym (swapped_beside xs many at k one first inside other (λ same. omega (arith, same, small, behind))) ∙ there in
            subst P (get_or_from_slice_get (take many xs) k c c stood) (all k c (slice_get_within (take many xs) k c stood))
      ])

  pub settled_berthed : (berths after : List ℕ) (slot : ℕ) → one.slot ≡ Some slot → slice_get after slot ≡ Some many → KeepsOthers berths after (Some slot) → NoneWaitsFor slot (take many xs)
      → AreBerthed berths (take many xs) → AreBerthed after (take (many + 1) (swap xs many at))
  settled_berthed berths after slot waits set keeps none berthed =
      let first : many < length xs = omega (arith, behind, inside) in
      berthed_more after many (swap xs many at) one slot (swapped_first xs many at one first inside ∙ is) waits set
      (berthed_behind after many xs many at first inside (omega arith) behind (berthed_beside berths after (take many xs) slot keeps none berthed))
