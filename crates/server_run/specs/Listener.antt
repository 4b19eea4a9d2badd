-- What an accept does.
use Rattle.std.specs.Prelude.{◌≡◌, ◌≤◌, ◌+◌, ℕ, List, [], ◌∷◌, Option}
use Rattle.std.specs.Option.{option_map}
use Rattle.service_core.specs.Counts.{Rose}
use Rattle.server_run.specs.declared.listener.Accepted.{Accepted}
use Rattle.server_run.specs.declared.listener.Accepted.TheVariants.{Got, NotYet, Skipped, Failed, Ended}

-- a fact of the link that was got, or else another
abbrev pub OnGot : {L : Type 0} → Accepted L → (L → Type 0) → Type 0 → Type 0
OnGot (Got link) got none = got link
OnGot NotYet got none = none
OnGot Skipped got none = none
OnGot Failed got none = none
OnGot Ended got none = none

-- the link was the first of these
abbrev pub IsTakenFrom : {L : Type 0} → Option (List L) → L → Option (List L) → Type 0
IsTakenFrom old link new = old ≡ option_map (λ links. link ∷ links) new

-- a count never falls, and where this comes it rose, or stands at its last value
pub record Rises (old new : ℕ) (this : Type 0) : Type 0 where
  pub never_falls : old ≤ new
  pub cause : this → Rose old new

-- What is still to come at a listener, beside times at which nothing has come.
pub data Mark : Type 0 where
  -- a connection
  gives : Mark
  -- a failure
  fails : Mark

-- a connection and a failure are the first of what was still to come
abbrev pub IsMarked : {L : Type 0} → Accepted L → Option (List Mark) → Option (List Mark) → Type 0
IsMarked (Got link) old new = old ≡ option_map (λ marks. gives ∷ marks) new
IsMarked NotYet old new = new ≡ old
IsMarked Skipped old new = new ≡ old
IsMarked Failed old new = old ≡ option_map (λ marks. fails ∷ marks) new
IsMarked Ended old new = new ≡ old

-- how often a listener failed in a row at the end of these, where it did so many times before them
abbrev pub in_a_row : ℕ → List Mark → ℕ
in_a_row n [] = n
in_a_row n (gives ∷ marks) = in_a_row 0 marks
in_a_row n (fails ∷ marks) = in_a_row (n + 1) marks
