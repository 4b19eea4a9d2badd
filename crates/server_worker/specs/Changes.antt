-- How the state of a service changes in a turn.
use Rattle.std.specs.Prelude.{◌≡◌, ◌≢◌, ◌⊎◌, ⊤, ℕ, ◌+◌, List, [], ◌∷◌}
use Rattle.futures.specs.Task.{Hears, IsArmed}
use Rattle.futures.specs.declared.task.context.Context.{Context}
use Rattle.worker_core.specs.Statuses.{is_asked}
use Rattle.worker_core.specs.WorkerCore.{Worker, status_of}
use Rattle.worker_core.specs.WorkerRuns.{WorkerCall, after_call}

-- Over these calls the status of a service changes at most n times: at each it stays, or one of so many changes is used.
abbrev pub ChangesAtMost : Worker → List WorkerCall → ℕ → ℕ → Type 0
ChangesAtMost w [] token n = ⊤
ChangesAtMost w (call ∷ calls) token n =
    ((status_of (after_call w call) token ≡ status_of w token) × ChangesAtMost (after_call w call) calls token n)
    ⊎ ((m : ℕ) × (n ≡ m + 1) × ChangesAtMost (after_call w call) calls token m)

-- a service stands that did not, or one that stood does not
abbrev pub HasChanged : Worker → Worker → ℕ → Type 0
HasChanged a b token = is_asked (status_of b token) ≢ is_asked (status_of a token)

-- This poll has asked for another one, or its task is woken: so it hears of every source there is. Of a nested task that has an event
-- loop on loan it says only that it is armed.
abbrev pub HasYielded : Context → Type 0
HasYielded cx = IsArmed cx × ((s : ℕ) → Hears cx s)
