-- How the services of a worker are asked whether they are ready, and made anew where they erred.
use Rattle.std.specs.Prelude.{◌≡◌, ◌⊎◌, ◌<◌, ◌+◌, ◌++◌, ⊤, true, ℕ, List, [], ◌∷◌, length, Option, None, Some, IfSome, slice_get, Ok, Err}
use Rattle.futures.specs.declared.task.Poll.TheVariants.{Ready as PollReady, Pending as PollPending}
use Rattle.worker_core.specs.WorkerCore.{Worker, status_of}
use Rattle.worker_core.specs.Statuses.{is_asked}
use Rattle.worker_core.specs.WorkerRuns.{AllAllowed, WorkerCall, after_calls, ready, restarted}
use Rattle.worker_core.specs.declared.ready_answer.ReadyAnswer.{ReadyAnswer}
use Rattle.worker_core.specs.declared.ready_answer.ReadyAnswer.TheVariants as answer
use Rattle.worker_core.specs.declared.service_status.ServiceStatus.TheVariants as status
use Rattle.service_core.specs.Counts.{Rose}
use Rattle.service_core.specs.Meaning.{Readiness}
use Rattle.server_worker.specs.Standing.{HasErred, making_waits}
use Rattle.server_worker.specs.declared.slot.Slot.{Slot}

-- what was done about a service: nothing, it was asked and answered so, or it was made anew
pub data Check : Type 0 where
  passed : Check
  asked : ReadyAnswer → Check
  remade : Check

-- an answer that readiness may give
abbrev pub MayAnswer : {E : Type 0} → (Readiness E → Type 0) → ReadyAnswer → Type 0
MayAnswer may_ready answer.Ready = may_ready (PollReady (Ok tt))
MayAnswer may_ready answer.NotReady = may_ready PollPending
MayAnswer {E} may_ready answer.Err = (error : E) × may_ready (PollReady (Err error))

abbrev pub MayCheck : {E : Type 0} → (Readiness E → Type 0) → Check → Type 0
MayCheck may_ready passed = ⊤
MayCheck may_ready (asked it) = MayAnswer may_ready it
MayCheck may_ready remade = ⊤

-- it was asked
abbrev pub WasAsked : Option Check → Type 0
WasAsked None = ⊥
WasAsked (Some passed) = ⊥
WasAsked (Some (asked it)) = ⊤
WasAsked (Some remade) = ⊥

-- the call of the core for it
abbrev pub calls_of : ℕ → Check → List WorkerCall
calls_of token passed = []
calls_of token (asked it) = ready token it ∷ []
calls_of token remade = restarted token ∷ []

-- the calls for the services from this token on, in their order
abbrev pub calls_from : ℕ → List Check → List WorkerCall
calls_from token [] = []
calls_from token (check ∷ checks) = calls_of token check ++ calls_from (token + 1) checks

-- it erred, or was made anew
abbrev pub HasMoved : Option Check → Type 0
HasMoved None = ⊥
HasMoved (Some passed) = ⊥
HasMoved (Some (asked answer.Ready)) = ⊥
HasMoved (Some (asked answer.NotReady)) = ⊥
HasMoved (Some (asked answer.Err)) = ⊤
HasMoved (Some remade) = ⊤

-- A service is available, or is not since it was pending, or waited for another one to be made anew, or erred or was made anew now, or had erred before, and the count of its making rose.
abbrev pub IsAccounted : {E S MFut : Type 0} → (ℕ → Readiness E → Type 0) → List (Slot MFut S E) → Worker → List (Slot MFut S E) → Worker → List Check → ℕ → Type 0
IsAccounted may_ready slots a after b checks token =
    (status_of b token ≡ status.Available) ⊎ (((status_of b token ≡ status.Unavailable) × may_ready token PollPending) ⊎ ((status_of a token ≡ status.Failed) ⊎ (HasMoved (slice_get checks token)
    ⊎ (HasErred (slice_get slots token) × Rose (making_waits (slice_get slots token)) (making_waits (slice_get after token))))))

-- The services before a number were checked, each once: it was asked where it stood, and made anew where it was to be and could be. The core took that, and nothing else.
pub record ChecksUpTo {E S MFut : Type 0} (may_ready : ℕ → Readiness E → Type 0) (slots : List (Slot MFut S E)) (a : Worker) (after : List (Slot MFut S E)) (b : Worker) (n : ℕ) : Type 0 where
  pub checks : List Check
  pub as_many : length checks ≡ n
  pub may : (token : ℕ) → IfSome (slice_get checks token) (MayCheck (may_ready token))
  pub asks : (token : ℕ) → token < n → is_asked (status_of a token) ≡ true → WasAsked (slice_get checks token)
  pub allowed : AllAllowed a (calls_from 0 checks)
  pub core : b ≡ after_calls a (calls_from 0 checks)
  pub accounted : (token : ℕ) → token < n → IsAccounted may_ready slots a after b checks token
