-- What is done about one service in a turn.
use Rattle.std.specs.Prelude.{◌≡◌, ◌≢◌, ◌⊎◌, ⊤, true, ℕ, List, length, Option, None, Some, slice_get}
use Rattle.futures.specs.declared.task.Poll.TheVariants.{Pending as PollPending}
use Rattle.worker_core.specs.WorkerCore.{Worker, status_of}
use Rattle.worker_core.specs.Statuses.{is_asked}
use Rattle.worker_core.specs.WorkerRuns.{AllAllowed, after_calls}
use Rattle.worker_core.specs.declared.service_status.ServiceStatus.TheVariants as status
use Rattle.service_core.specs.Counts.{Rose}
use Rattle.service_core.specs.Meaning.{Readiness}
use Rattle.server_worker.specs.Asking.{Check, HasMoved, MayCheck, WasAsked, calls_of}
use Rattle.server_worker.specs.Standing.{HasErred, making_waits}
use Rattle.server_worker.specs.declared.checked.Checked.{Checked}
use Rattle.server_worker.specs.declared.checked.Checked.TheVariants.{Stayed, Moved, Refused}
use Rattle.server_worker.specs.declared.slot.Slot.{Slot}
use Rattle.server_worker.specs.declared.slot.Slot.TheVariants.{Making, Made, Failed, Remaking, Gone}

-- it stands
abbrev pub IsStanding : {Fut S E : Type 0} → Option (Slot Fut S E) → Type 0
IsStanding None = ⊥
IsStanding (Some (Making future)) = ⊥
IsStanding (Some (Made service)) = ⊤
IsStanding (Some (Failed error)) = ⊥
IsStanding (Some (Remaking future error)) = ⊥
IsStanding (Some Gone) = ⊥

-- it is being made anew
abbrev pub IsRemaking : {Fut S E : Type 0} → Option (Slot Fut S E) → Type 0
IsRemaking None = ⊥
IsRemaking (Some (Making future)) = ⊥
IsRemaking (Some (Made service)) = ⊥
IsRemaking (Some (Failed error)) = ⊥
IsRemaking (Some (Remaking future error)) = ⊤
IsRemaking (Some Gone) = ⊥

-- it failed, and its making anew was not begun
abbrev pub IsDown : {Fut S E : Type 0} → Option (Slot Fut S E) → Type 0
IsDown None = ⊥
IsDown (Some (Making future)) = ⊥
IsDown (Some (Made service)) = ⊥
IsDown (Some (Failed error)) = ⊤
IsDown (Some (Remaking future error)) = ⊥
IsDown (Some Gone) = ⊥

-- it was not refused
abbrev pub IsChecked : {E I : Type 0} → Checked E I → Type 0
IsChecked Stayed = ⊤
IsChecked Moved = ⊤
IsChecked (Refused readiness error) = ⊥

-- About the service of a token this was done, and about no other.
pub record Checks {E S MFut : Type 0} (may_ready : ℕ → Readiness E → Type 0) (slots : List (Slot MFut S E)) (a : Worker) (after : List (Slot MFut S E)) (b : Worker) (token : ℕ) : Type 0 where
  pub check : Check
  pub may : MayCheck (may_ready token) check
  pub asks : is_asked (status_of a token) ≡ true → WasAsked (Some check)
  pub allowed : AllAllowed a (calls_of token check)
  pub core : b ≡ after_calls a (calls_of token check)
  pub others : (t : ℕ) → t ≢ token → slice_get after t ≡ slice_get slots t
  pub as_many : length after ≡ length slots
  pub accounted : (status_of b token ≡ status.Available) ⊎ (((status_of b token ≡ status.Unavailable) × may_ready token PollPending) ⊎ ((status_of a token ≡ status.Failed) ⊎ (HasMoved (Some check)
      ⊎ (HasErred (slice_get slots token) × Rose (making_waits (slice_get slots token)) (making_waits (slice_get after token))))))
