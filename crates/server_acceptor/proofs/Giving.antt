-- What a listener gave, and what a holder of finished connections was given.
use Rattle.std.proofs.Common.{◌≡◌, ◌<◌, ℕ, zero, suc, ◌+◌, ◌^◌, refl, ◌==◌, if◌then◌else◌, List, [], ◌∷◌, ◌++◌, drop, Option, Some, None, IfSome, slice_get, sym, ap, arith, add-one}
use Rattle.std.specs.Option.{option_map}
use Rattle.std.proofs.lemmas.Bool.Decides.{nat_tests}
use Rattle.std.proofs.lemmas.List.{append-nil}
use Rattle.server_run.specs.Delivery.{once_below}
use Rattle.server_run.specs.Done.{Adds}
use Rattle.server_run.specs.declared.entry.Entry.{Entry}

pub adds_none : {L D : Type 0} (taken : D → Option (List (Entry L))) (count served : D → ℕ) (d : D) → (count d < 2 ^ 64) × (served d < 2 ^ 64) → Adds taken count served d d []
adds_none {L = L} taken count served d fits = record {
  list = same (taken d);
  number = let counts = fits.0 in omega arith;
  number_served = let counts = fits.1 in omega arith;
}
  where
    same : (told : Option (List (Entry L))) → told ≡ option_map (λ before. before ++ []) told
    same None = refl
    same (Some entries) = ap Some (sym (append-nil entries))

pub once_below-more : (n k : ℕ) → once_below (n + 1) k ≡ once_below n k + (if n == k then 1 else 0)
once_below-more n k = grind (arith, nat_tests)

drop_to : {X : Type 0} (xs : List X) (r : ℕ) (x : X) (rest : List X) → drop r xs ≡ x ∷ rest → slice_get xs r ≡ Some x
drop_to [] zero x rest is = cc
drop_to [] (suc r) x rest is = cc
drop_to (y ∷ xs) zero x rest is = cc
drop_to (y ∷ xs) (suc r) x rest is = drop_to xs r x rest is

drop_behind : {X : Type 0} (xs : List X) (r : ℕ) (x : X) (rest : List X) → drop r xs ≡ x ∷ rest → drop (suc r) xs ≡ rest
drop_behind [] zero x rest is = cc
drop_behind [] (suc r) x rest is = cc
drop_behind (y ∷ xs) zero x rest is = cc
drop_behind (y ∷ xs) (suc r) x rest is = drop_behind xs r x rest is

-- where r links were taken from a list and one more is taken, it is the link at r
pub first_left : {X : Type 0} (before after now : Option (List X)) (r : ℕ) (x : X)
    → now ≡ option_map (drop r) before → now ≡ option_map (λ xs. x ∷ xs) after
    → IfSome before (λ xs. slice_get xs r ≡ Some x) × (after ≡ option_map (drop (r + 1)) before)
first_left None None now r x dropped taken = (tt, refl)
first_left None (Some rest) now r x dropped taken = cc
first_left (Some xs) None now r x dropped taken = cc
first_left (Some xs) (Some rest) now r x dropped taken =
    let is : drop r xs ≡ x ∷ rest = cc in
    (drop_to xs r x rest is, rw add-one (ap Some (sym (drop_behind xs r x rest is))))
