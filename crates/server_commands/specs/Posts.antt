-- The commands that wait to be given.
use Rattle.std.specs.Prelude.{◌≡◌, ℕ, ◌+◌, Bool, true, false, List, [], ◌∷◌, ◌++◌, Option, None, Some}
use Rattle.server_core.specs.declared.command.Command.{Command}
use Rattle.server_core.specs.declared.command.Command.TheVariants.{Pause, Resume, Stop}
use Rattle.server_commands.specs.declared.posted.Posted.{Posted}

-- 1 for a stop
abbrev pub stop_of : Command → ℕ
stop_of Pause = 0
stop_of Resume = 0
stop_of (Stop graceful) = 1

-- how many of these are stops
abbrev pub stops_in : List Posted → ℕ
stops_in [] = 0
stops_in (posted ∷ rest) = stop_of posted.command + stops_in rest

-- the first of those that wait is taken, and the others wait on
abbrev pub IsFirst : List Posted → Option Posted → List Posted → Type 0
IsFirst [] taken left = (taken ≡ None) × (left ≡ [])
IsFirst (posted ∷ rest) taken left = (taken ≡ Some posted) × (left ≡ rest)

-- those that wait once one more is posted: behind the others, or not at all where the queue is closed
abbrev pub waiting_with : Bool → Posted → List Posted → List Posted
waiting_with true posted waiting = waiting
waiting_with false posted waiting = waiting ++ posted ∷ []

-- how many stops were taken once one more command is posted, which counts as taken where the queue is closed
abbrev pub taken_with : Bool → Posted → ℕ → ℕ
taken_with true posted taken = taken + stop_of posted.command
taken_with false posted taken = taken
