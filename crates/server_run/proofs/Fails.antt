-- How many of the steps before a place are of a kind.
use Rattle.std.proofs.Common.{◌≡◌, ◌≤◌, ℕ, zero, suc, ◌+◌, Bool, true, cond, List, [], ◌∷◌, take, Some, slice_get, refl, ◌∙◌, ap, arith}
use Rattle.std.specs.List.{count_by}
use Rattle.std.proofs.lemmas.List.Sums.{count_by_more_yes, sum_by-append}
use Rattle.std.proofs.lemmas.Option.{get_or_from_slice_get, slice_get_within}
use Rattle.server_run.specs.Steps.{count_before}

module _ {X : Type 0} (p : X → Bool) where
  counted_cons : (x : X) (xs : List X) → count_by p (x ∷ xs) ≡ cond (p x) 1 0 + count_by p xs
  counted_cons x xs = sum_by-append (λ y. cond (p y) 1 0) (x ∷ []) xs ∙ omega arith

  counted_none : (n : ℕ) → count_before p [] n ≡ 0
  counted_none zero = refl
  counted_none (suc n) = refl

  -- further on there are no fewer
  pub counted_onward : (xs : List X) (n m : ℕ) → n ≤ m → count_before p xs n ≤ count_before p xs m
  counted_onward [] n m onward = let a = counted_none n in let b = counted_none m in omega arith
  counted_onward (x ∷ xs) zero m onward = omega arith
  counted_onward (x ∷ xs) (suc n) zero onward = absurd (omega arith)
  counted_onward (x ∷ xs) (suc n) (suc m) onward =
      let a = counted_cons x (take n xs) in let b = counted_cons x (take m xs) in let c = counted_onward xs n m (omega arith) in omega arith

  -- one more behind a step of the kind
  pub counted_more : (xs : List X) (n : ℕ) (x : X) → slice_get xs n ≡ Some x → p x ≡ true → count_before p xs (n + 1) ≡ count_before p xs n + 1
  counted_more xs n x at is = count_by_more_yes p xs n x (slice_get_within xs n x at) (ap p (get_or_from_slice_get xs n x x at) ∙ is)
