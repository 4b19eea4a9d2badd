-- What a run of the server does with the connections that its listeners gave.
use Rattle.std.specs.Prelude.{◌≡◌, ◌<◌, ⊤, ℕ, true, List, All, Option, Some, None, Err}
use Rattle.futures.specs.declared.task.Poll.TheVariants.{Ready}
use Rattle.service_core.specs.Link.{Identity}
use Rattle.service_core.specs.Meaning.{Readiness}
use Rattle.service_core.specs.declared.ended.Ended.{Ended}
use Rattle.server_run.specs.Delivery.{Delivers, given_at, left_at}
use Rattle.server_run.specs.Done.{Adds, Keeps}
use Rattle.server_run.specs.Outcome.{is_stopped}
use Rattle.server_run.specs.Report.{is_stop}
use Rattle.server_run.specs.declared.entry.Entry.{Entry}
use Rattle.server_run.specs.declared.outcome.Outcome.{Outcome}
use Rattle.server_run.specs.declared.outcome.Outcome.TheVariants.{Lost}
use Rattle.server_run.specs.declared.report.End.{End}
use Rattle.server_run.specs.declared.report.End.TheVariants.{NoWorkers}

-- A worker may end by a fault: a service of one of so many listeners may err, and the factory that made it may refuse another.
pub record MayFault {E I : Type 0} (may_ready : ℕ → Readiness E → Type 0) (may_init : ℕ → I → Type 0) (listeners : ℕ) : Type 0 where
  pub token : ℕ
  pub within : token < listeners
  pub readiness : E
  pub errs : may_ready token (Ready (Err readiness))
  pub error : I
  pub refuses : may_init token error

-- A connection is lost only by one of so many workers that may end by a fault, or where none is left.
abbrev pub IsLostBy : ℕ → Type 0 → End → Outcome → Type 0
IsLostBy workers may_fault end (Lost (Some worker)) = (worker < workers) × may_fault
IsLostBy workers may_fault end (Lost None) = end ≡ NoWorkers
IsLostBy workers may_fault end _ = ⊤

-- Why a connection was not served to its end, where that is no matter of its own: one was stopped only where the run was, or lost.
pub record HasCause {L : Type 0} (workers : ℕ) (may_fault : Type 0) (end : End) (entry : Entry L) : Type 0 where
  pub stopped : is_stopped entry.outcome ≡ true → is_stop end ≡ true
  pub lost : IsLostBy workers may_fault end entry.outcome

-- Each connection that the listeners gave was handed on, once, with its link.
pub record Serves {Li L D : Type 0} (given : Li → ℕ) (left : Li → Option (List L)) (identity : L → Identity) (may_serve : ℕ → L → Ended L → Type 0)
    (may_leave : ℕ → L → L → Type 0) (taken : D → Option (List (Entry L))) (count served : D → ℕ) (before after : List Li) (old new : D) (workers : ℕ) (may_fault : Type 0) (end : End) : Type 0 where
  pub entries : List (Entry L)
  pub adds : Adds taken count served old new entries
  pub delivers : Delivers given left identity may_serve may_leave before after entries
  pub outcomes : All (HasCause workers may_fault end) entries
  -- no worker is left only where workers may end by faults
  pub faulted : end ≡ NoWorkers → may_fault

-- No listener gave anything, and nothing was handed on.
pub record Untouched {Li L D : Type 0} (given : Li → ℕ) (left : Li → Option (List L)) (taken : D → Option (List (Entry L))) (count served : D → ℕ) (before after : List Li) (old new : D) : Type 0 where
  pub given_same : (t : ℕ) → given_at given after t ≡ given_at given before t
  pub left_same : (t : ℕ) → left_at left after t ≡ left_at left before t
  pub keeps : Keeps taken count served old new
