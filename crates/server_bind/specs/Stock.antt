-- The listeners that a binder tells.
use Rattle.std.specs.Prelude.{◌≡◌, ◌≢◌, All, IfSome, List, [], ◌∷◌, map, Option, Some, None}
use Rattle.service_core.specs.Link.{Identity}
use Rattle.server_run.specs.Listener.{Mark, gives}

-- no read and no write of it fails
abbrev pub NeverFails : Identity → Type 0
NeverFails identity = (identity.read_fails ≡ Some 0) × (identity.write_fails ≡ Some 0)

-- A listener that tells what is to come of it: connections, on links that never fail, and no failure.
pub record IsSteady {Li L : Type 0} (left : Li → Option (List L)) (rest : Li → Option (List Mark)) (identity : L → Identity) (listener : Li) : Type 0 where
  pub told : left listener ≢ None
  pub goes_on : IfSome (left listener) (λ links. (rest listener ≡ Some (map (λ _. gives) links)) × All (λ link. NeverFails (identity link)) links)

-- the listeners among these entries
abbrev pub listeners_in : {Li : Type 0} → List (Option Li) → List Li
listeners_in [] = []
listeners_in (None ∷ entries) = listeners_in entries
listeners_in (Some listener ∷ entries) = listener ∷ listeners_in entries
