-- What a bind does.
use Rattle.std.specs.Prelude.{◌≡◌, ℕ, List, [], ◌∷◌, ◌++◌, Option}
use Rattle.server_run.specs.Listener.{IsTakenFrom}

-- A listener was bound, the first of the binder's stock where it tells it, and stands behind those that were there.
pub record Binds {B Li : Type 0} (stock : B → Option (List Li)) (refusals : B → ℕ) (before after : B) (old new : List Li) : Type 0 where
  pub listener : Li
  pub first : IsTakenFrom (stock before) listener (stock after)
  pub unrefused : refusals after ≡ refusals before
  pub last : new ≡ old ++ listener ∷ []
