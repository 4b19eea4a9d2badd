-- What a report says of the listeners, as they were and as they are.
use Rattle.std.specs.Prelude.{◌≡◌, ◌≢◌, ◌⊎◌, ◌↔◌, ◌<◌, ℕ, ◌++◌, Bool, true, false, List, length, Option, Some, slice_get}
use Rattle.std.specs.Option.{option_map}
use Rattle.service_core.specs.Counts.{Rose}
use Rattle.server_run.specs.declared.report.Report.{Report}
use Rattle.server_run.specs.declared.report.End.{End}
use Rattle.server_run.specs.declared.report.End.TheVariants.{Drained, Stopped, NoWorkers, Memory}
use Rattle.server_run.specs.declared.report.ListenerState.{ListenerState}
use Rattle.server_run.specs.declared.report.ListenerState.TheVariants.{Ended, Faulted, Open}
use Rattle.server_run.specs.Delivery.{HasEnded, given_at, rest_at}
use Rattle.server_run.specs.Listener.{Mark, in_a_row}

-- a command stopped the run
abbrev pub is_stop : End → Bool
is_stop Drained = false
is_stop (Stopped graceful) = true
is_stop NoWorkers = false
is_stop Memory = false

-- this listener had not ended, and has now
abbrev pub EndedMeanwhile : {Li : Type 0} → (Li → Bool) → List Li → List Li → ℕ → Type 0
EndedMeanwhile ended old new token = (¬ HasEnded ended old token) × HasEnded ended new token

-- the report tells this of a listener
abbrev pub IsTold : Report → ℕ → ListenerState → Type 0
IsTold report token state = slice_get report.listeners.items token ≡ Some state

-- These came of a listener, where it tells what comes, and it failed so often in a row at their end exactly where it is told so.
pub record HasFailed {Li : Type 0} (rest : Li → Option (List Mark)) (retry_limit : ℕ) (old new : List Li) (token : ℕ) (told : Type 0) : Type 0 where
  pub came : List Mark
  pub gone : rest_at rest old token ≡ option_map (λ marks. came ++ marks) (rest_at rest new token)
  pub exactly : told ↔ (in_a_row 0 came ≡ retry_limit)

pub record Tells {Li : Type 0} (rest : Li → Option (List Mark)) (ended : Li → Bool) (faults : Li → ℕ) (retry_limit : ℕ) (old new : List Li) (report : Report) : Type 0 where
  pub as_many : length report.listeners.items ≡ length new
  -- a listener that ended meanwhile is told as ended, and only one that has ended is
  pub ended_meanwhile : (token : ℕ) → EndedMeanwhile ended old new token → IsTold report token Ended
  pub state_ended : (token : ℕ) → IsTold report token Ended → HasEnded ended new token
  -- one is told as faulted only where it failed meanwhile, and with as many failures as it may have
  pub state_faulted : (token failures : ℕ) → IsTold report token (Faulted failures)
      → (failures ≡ retry_limit) × Rose (given_at faults old token) (given_at faults new token)
  -- where it tells what comes, one is told so exactly where as many failures in a row were the last that came of it
  pub state_by_rest : (token : ℕ) → token < length new → HasFailed rest retry_limit old new token (IsTold report token (Faulted retry_limit))
  -- one is told as open only beside another end than `Drained`
  pub state_open : (token : ℕ) → IsTold report token Open → report.end ≢ Drained
  -- the end is `Drained` only where every listener has ended, or failed as often as it may
  pub drained : report.end ≡ Drained → (token : ℕ) → token < length new → HasEnded ended new token ⊎ IsTold report token (Faulted retry_limit)
