-- What is still to come of a listener up to a number of connections.
use Rattle.std.proofs.Common.{◌≡◌, ◌+◌, ◌-◌, ◌<◌, ℕ, zero, suc, Bool, true, false, List, ◌∷◌, Option, None, Some, option_map, take, if◌then◌else◌, refl, ap, sym, ◌∙◌, arith}
use Rattle.server_run.specs.Listener.{Mark, gives, fails}
use Rattle.server_bind.specs.Limiting.{until}

one_less : (n : ℕ) → suc n - 1 ≡ n
one_less n = omega arith

-- the first of more than none
first_of : {L : Type 0} (n : ℕ) (link : L) (left : Option (List L)) → option_map (take (suc n)) (option_map (λ links. link ∷ links) left) ≡ option_map (λ links. link ∷ links) (option_map (take n) left)
first_of n link None = refl
first_of n link (Some links) = refl

pub got : {L : Type 0} (ended : Bool) (remaining : ℕ) (link : L) (old new : Option (List L)) → ended ≡ false → (remaining ≡ 0 → ⊥) → old ≡ option_map (λ links. link ∷ links) new
    → option_map (take (if ended then 0 else remaining)) old ≡ option_map (λ links. link ∷ links) (option_map (take (if ended then 0 else remaining - 1)) new)
got true remaining link old new is some first = absurd (none is)
  where
    none : true ≡ false → ⊥
    none same = cc
got false zero link old new is some first = absurd (some refl)
got false (suc n) link old new is some first =
    ap (option_map (take (suc n))) first ∙ first_of n link new ∙ ap (λ k. option_map (λ links. link ∷ links) (option_map (take k) new)) (sym (one_less n))

gives_first : (n : ℕ) (marks : Option (List Mark)) → option_map (until (suc n)) (option_map (λ ms. gives ∷ ms) marks) ≡ option_map (λ ms. gives ∷ ms) (option_map (until n) marks)
gives_first n None = refl
gives_first n (Some marks) = refl

fails_first : (n : ℕ) (marks : Option (List Mark)) → option_map (until (suc n)) (option_map (λ ms. fails ∷ ms) marks) ≡ option_map (λ ms. fails ∷ ms) (option_map (until (suc n)) marks)
fails_first n None = refl
fails_first n (Some marks) = refl

pub got_marked : (remaining : ℕ) (old new : Option (List Mark)) → (remaining ≡ 0 → ⊥) → old ≡ option_map (λ ms. gives ∷ ms) new
    → option_map (until remaining) old ≡ option_map (λ ms. gives ∷ ms) (option_map (until (remaining - 1)) new)
got_marked zero old new some first = absurd (some refl)
got_marked (suc n) old new some first = ap (option_map (until (suc n))) first ∙ gives_first n new ∙ ap (λ k. option_map (λ ms. gives ∷ ms) (option_map (until k) new)) (sym (one_less n))

pub failed_marked : (remaining : ℕ) (old new : Option (List Mark)) → (remaining ≡ 0 → ⊥) → old ≡ option_map (λ ms. fails ∷ ms) new
    → option_map (until remaining) old ≡ option_map (λ ms. fails ∷ ms) (option_map (until remaining) new)
failed_marked zero old new some first = absurd (some refl)
failed_marked (suc n) old new some first = ap (option_map (until (suc n))) first ∙ fails_first n new

-- one less is left where one more was given
pub given_more : (remaining most : ℕ) → (remaining ≡ 0 → ⊥) → remaining < most → most - 1 - (remaining - 1) ≡ most - 1 - remaining + 1
given_more remaining most some few = omega (arith, few, some)
