-- The last of a list is changed.
use Rattle.std.proofs.Common.{◌≡◌, ◌<◌, ◌-◌, ℕ, List, [], ◌∷◌, ◌++◌, length, set, Option, Some, None, refl, ◌∙◌, ap, arith, length-append}
use Rattle.std.specs.List.{slice_get}
use Rattle.std.specs.Option.{option_and_then, option_map}
use Rattle.std.proofs.Math.Seq.{get_or-append_seam, set-append_seam}
use Rattle.std.proofs.lemmas.Option.{slice_get-get_or}
use Rattle.script.specs.Planned.{at_last}

pub at_last_is : {X : Type 0} (change : X → Option X) (xs : List X) (x : X) → at_last change (xs ++ x ∷ []) ≡ option_map (λ y. xs ++ y ∷ []) (change x)
at_last_is {X} change xs x =
    let long : length (xs ++ x ∷ []) - 1 ≡ length xs = rw length-append (omega arith) in
    let inside : length xs < length (xs ++ x ∷ []) = rw length-append (omega arith) in
    let last : slice_get (xs ++ x ∷ []) (length xs) ≡ Some x = slice_get-get_or (xs ++ x ∷ []) (length xs) x inside ∙ ap Some (get_or-append_seam xs x [] x) in
    ap (λ (n : ℕ). option_and_then (λ (z : X). option_map (λ (y : X). set (xs ++ x ∷ []) n y) (change z)) (slice_get (xs ++ x ∷ []) n)) long
    ∙ ap (λ (o : Option X). option_and_then (λ (z : X). option_map (λ (y : X). set (xs ++ x ∷ []) (length xs) y) (change z)) o) last
    ∙ changed (change x)
  where
    changed : (o : Option X) → option_map (λ (y : X). set (xs ++ x ∷ []) (length xs) y) o ≡ option_map (λ (y : X). xs ++ y ∷ []) o
    changed None = refl
    changed (Some y) = ap Some (set-append_seam xs x [] y)
