-- What is still to come of a listener up to a number of connections.
use Rattle.std.specs.Prelude.{◌≡◌, ℕ, zero, suc, Bool, true, false, List, [], ◌∷◌, Option, None, Some, option_map, take, if◌then◌else◌, IfSome, IsTrue}
use Rattle.std.proofs.Common.{refl}
use Rattle.server_run.specs.Listener.{Mark, gives, fails}

-- what comes until so many connections have come
abbrev pub until : ℕ → List Mark → List Mark
until zero marks = []
until (suc n) [] = []
until (suc n) (gives ∷ marks) = gives ∷ until n marks
until (suc n) (fails ∷ marks) = fails ∷ until (suc n) marks

-- where it has ended, nothing is left
pub nothing_left : {L : Type 0} (ended : Bool) (n : ℕ) (left : Option (List L)) → IsTrue ended → IfSome (option_map (take (if ended then 0 else n)) left) (λ links. links ≡ [])
nothing_left true n None is = tt
nothing_left true n (Some links) is = refl
nothing_left false n left is = absurd (none is)
  where
    none : false ≡ true → ⊥
    none same = cc
