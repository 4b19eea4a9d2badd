-- The services of one worker, and what each call changes.
use Rattle.std.specs.Prelude.{◌≡◌, ℕ, ◌==◌, ◌<◌, ◌≤◌, Bool, true, false, if◌then◌else◌, List, length, map, replicate, count_by, position, IsTrue, Option, Some, None, slice_index_or, slice_set}
use Rattle.std.specs.List.{list_all, list_any}
use Rattle.worker_core.specs.Statuses.{is_asked, is_available, is_failed, is_restarting}
use Rattle.worker_core.specs.declared.ready_answer.ReadyAnswer.{ReadyAnswer}
use Rattle.worker_core.specs.declared.ready_answer.ReadyAnswer.TheVariants.{Ready, NotReady, Err}
use Rattle.worker_core.specs.declared.service_status.ServiceStatus.{ServiceStatus}
use Rattle.worker_core.specs.declared.service_status.ServiceStatus.TheVariants.{Available, Unavailable, Failed, Restarting, Stopping, Stopped}
use Rattle.worker_core.specs.declared.stop_answer.StopAnswer.{StopAnswer}
use Rattle.worker_core.specs.declared.stop_answer.StopAnswer.TheVariants.{Drain, Leave}
use Rattle.worker_core.specs.declared.worker_state.WorkerState.{WorkerState}
use Rattle.worker_core.specs.declared.worker_state.WorkerState.TheVariants as state

pub record Worker : Type 0 where
  pub services : List ServiceStatus  -- by token
  pub draining : Bool  -- a stop answered Drain
  pub left : Bool  -- a stop answered Leave(false)

abbrev pub new_worker : ℕ → Worker
new_worker listeners = record { services = replicate listeners Unavailable; draining = false; left = false }

abbrev pub status_of : Worker → ℕ → ServiceStatus
status_of w token = slice_index_or w.services token Unavailable

-- the worker with this status of one service
abbrev pub with_status : Worker → ℕ → ServiceStatus → Worker
with_status w token status = record w { services = slice_set w.services token status }

-- a service is asked while it is available or unavailable, and until a stop
pub record MayAsk (w : Worker) (token : ℕ) : Type 0 where
  pub listens : token < length w.services
  pub asked : IsTrue (is_asked (status_of w token))
  pub not_draining : w.draining ≡ false
  pub not_left : w.left ≡ false

-- a service that is being made again may be done
pub record MayRestart (w : Worker) (token : ℕ) : Type 0 where
  pub listens : token < length w.services
  pub restarts : status_of w token ≡ Restarting

-- one service at a time is made again
abbrev pub failure_status : Worker → ServiceStatus
failure_status w = if list_any is_restarting w.services then Failed else Restarting

abbrev pub answer_status : Worker → ReadyAnswer → ServiceStatus
answer_status w Ready = Available
answer_status w NotReady = Unavailable
answer_status w Err = failure_status w

abbrev pub after_ready : Worker → ℕ → ReadyAnswer → Worker
after_ready w token a = with_status w token (answer_status w a)

-- the service at the place is made again, where there is one
abbrev pub restarted_at : List ServiceStatus → Option ℕ → List ServiceStatus
restarted_at services None = services
restarted_at services (Some token) = slice_set services token Restarting

-- the failed service with the lowest token is made again
abbrev pub next_restarted : List ServiceStatus → List ServiceStatus
next_restarted services = restarted_at services (position is_failed services)

abbrev pub after_restarted : Worker → ℕ → Worker
after_restarted w token = record w { services = next_restarted (slice_set w.services token Unavailable) }

abbrev pub state_of : Worker → WorkerState
state_of w =
    if w.draining then state.Draining
    else if list_any is_restarting w.services then state.Restarting
    else if list_all is_available w.services then state.Available
    else state.Unavailable

abbrev pub stop_answer : Bool → ℕ → StopAnswer
stop_answer graceful total =
    if total == 0 then Leave true
    else if graceful then Drain
    else Leave false

-- each available service gets this status
abbrev pub with_available : ServiceStatus → List ServiceStatus → List ServiceStatus
with_available status = map (λ s. if is_available s then status else s)

abbrev pub after_stop : Worker → StopAnswer → Worker
after_stop w Drain = record w { services = with_available Stopping w.services; draining = true }
after_stop w (Leave true) = w
after_stop w (Leave false) = record w { services = with_available Stopped w.services; left = true }

-- 1 to 64 services, of which one at a time is made again, and a failed one waits only for another one
pub record IsKept (services : List ServiceStatus) : Type 0 where
  pub some : 0 < length services
  pub fits : length services ≤ 64
  pub one_restarts : count_by is_restarting services ≤ 1
  pub failed_waits : 0 < count_by is_failed services → 0 < count_by is_restarting services
