-- Sums over a list up to a place and from it on, where the element there is changed or taken out.
use Rattle.std.proofs.Common.{◌≡◌, ◌<◌, ◌≤◌, ℕ, zero, suc, ◌+◌, ◌-◌, List, [], ◌∷◌, length, take, drop, set, get_or, sum_by, All, refl, sym, ◌∙◌, ap, arith, inl, inr}
use Rattle.std.specs.List.{swap_remove, slice_set, slice_index_or}
use Rattle.std.proofs.Math.ListN.{length-set}
use Rattle.std.proofs.lemmas.Bool.{cases_eq}
use Rattle.std.proofs.lemmas.List.{take-set, get_or-set_other, length-take}
use Rattle.std.proofs.lemmas.List.Sums.{sum_by-take-drop, sum_by-set, sum_by-drop_more, sum_by-swap_remove}
use Rattle.std.proofs.lemmas.List.Elements.{All-take, All-set, All-get_or}

module _ {X : Type 0} where
  pub take_take : (k n : ℕ) (xs : List X) → k ≤ n → take k (take n xs) ≡ take k xs
  take_take zero n xs within = refl
  take_take (suc k) zero xs within = absurd (omega arith)
  take_take (suc k) (suc n) [] within = refl
  take_take (suc k) (suc n) (x ∷ xs) within = ap (λ ys. x ∷ ys) (take_take k n xs (omega arith))

  -- what is the same up to a place is so up to the one before
  pub front_less : (k : ℕ) (xs ys : List X) → take (k + 1) xs ≡ take (k + 1) ys → take k xs ≡ take k ys
  front_less k xs ys same = sym (take_take k (k + 1) xs (omega arith)) ∙ ap (take k) same ∙ take_take k (k + 1) ys (omega arith)

  -- the element at a place is changed
  pub sum_from_set : (f : X → ℕ) (xs : List X) (at : ℕ) (c d : X) → at < length xs → sum_by f (drop at (set xs at d)) ≡ f d + sum_by f (drop (at + 1) xs)
  sum_from_set f xs at c d inside =
      omega (arith, sum_by-set f xs at d c inside, sum_by-take-drop f (set xs at d) at, ap (sum_by f) (take-set xs at d), sum_by-take-drop f xs at, sum_by-drop_more f xs at c inside)

  pub removed_before : (xs : List X) (at : ℕ) (d : X) → at < length xs → take at (swap_remove xs at d) ≡ take at xs
  removed_before xs at d inside = take_take at (length xs - 1) (slice_set xs at (slice_index_or xs (length xs - 1) d)) (omega arith) ∙ take-set xs at (slice_index_or xs (length xs - 1) d)

  -- it is taken out
  pub sum_from_removed : (f : X → ℕ) (xs : List X) (at : ℕ) (d : X) → at < length xs → sum_by f (drop at (swap_remove xs at d)) ≡ sum_by f (drop (at + 1) xs)
  sum_from_removed f xs at d inside =
      omega (arith, sum_by-swap_remove f xs at d inside, sum_by-take-drop f (swap_remove xs at d) at, ap (sum_by f) (removed_before xs at d inside), sum_by-take-drop f xs at, sum_by-drop_more f xs at d inside)

  pub all_removed : (P : X → Type 0) (xs : List X) (at : ℕ) (d : X) → at < length xs → All P xs → All P (swap_remove xs at d)
  all_removed P xs at d inside all =
      All-take P (length xs - 1) (slice_set xs at (slice_index_or xs (length xs - 1) d)) (All-set P xs at (slice_index_or xs (length xs - 1) d) (All-get_or P xs (length xs - 1) d (omega arith) all) all)

  set_twice : (xs : List X) (at : ℕ) (d e : X) → set (set xs at d) at e ≡ set xs at e
  set_twice [] at d e = refl
  set_twice (x ∷ xs) zero d e = refl
  set_twice (x ∷ xs) (suc at) d e = ap (λ ys. x ∷ ys) (set_twice xs at d e)

  pub any_default : (xs : List X) (k : ℕ) (c d : X) → k < length xs → get_or xs k c ≡ get_or xs k d
  any_default [] k c d inside = absurd (omega arith)
  any_default (x ∷ xs) zero c d inside = refl
  any_default (x ∷ xs) (suc k) c d inside = any_default xs k c d (omega arith)

  -- what stood there before it was taken out doesn't matter
  pub removed_set : (xs : List X) (at : ℕ) (c d : X) → at < length xs → swap_remove (set xs at d) at d ≡ swap_remove xs at c
  removed_set xs at c d inside = elim (cases_eq at (length xs - 1)) [
    | inl last ↦ rw (length-set xs at d, last) (take-set (set xs (length xs - 1) d) (length xs - 1) _ ∙ take-set xs (length xs - 1) d ∙ sym (take-set xs (length xs - 1) _))
    | inr other ↦ rw (length-set xs at d, set_twice xs at d (get_or (set xs at d) (length xs - 1) d), get_or-set_other xs at (length xs - 1) d d (λ is. other (sym is))) (ap (λ y. take (length xs - 1) (set xs at y)) (any_default xs (length xs - 1) d c (omega arith)))
  ]

  pub length_removed : (xs : List X) (at : ℕ) (d : X) → at < length xs → length (swap_remove xs at d) + 1 ≡ length xs
  length_removed xs at d inside = omega (arith, length-take (length xs - 1) (slice_set xs at (slice_index_or xs (length xs - 1) d)), length-set xs at (slice_index_or xs (length xs - 1) d))
