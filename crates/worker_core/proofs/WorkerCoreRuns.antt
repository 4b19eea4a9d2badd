-- Every list of allowed calls keeps the services in order.
use Rattle.std.proofs.Common.{◌≡◌, ℕ, ◌<◌, length, get_or, ◌≤◌, Bool, true, false, true≢false, List, [], ◌∷◌, refl, sym, ◌∙◌}
use Rattle.std.specs.Prelude.{if◌then◌else◌, position, slice_set}
use Rattle.std.specs.List.{list_all, list_any}
use Rattle.std.proofs.lemmas.List.Folds.{list_all_at}
use Rattle.worker_core.proofs.WorkerCoreSteps.{kept_answered, kept_made, kept_new, kept_stopped}
use Rattle.worker_core.specs.Statuses.{is_available, is_failed, is_restarting}
use Rattle.worker_core.specs.WorkerCore.{IsKept, Worker, after_stop, new_worker, state_of, status_of, stop_answer}
use Rattle.worker_core.specs.WorkerRuns.{AllAllowed, IsAllowed, WorkerCall, after_call, after_calls, ready, restarted, stop}
use Rattle.worker_core.specs.declared.service_status.ServiceStatus.{ServiceStatus}
use Rattle.worker_core.specs.declared.service_status.ServiceStatus.TheVariants.{Available, Unavailable, Failed, Restarting, Stopping, Stopped}
use Rattle.worker_core.specs.declared.stop_answer.StopAnswer.{StopAnswer}
use Rattle.worker_core.specs.declared.stop_answer.StopAnswer.TheVariants.{Drain, Leave}
use Rattle.worker_core.specs.declared.worker_state.WorkerState.TheVariants as state

kept_stop : (w : Worker) (a : StopAnswer) → IsKept w.services → IsKept (after_stop w a).services
kept_stop w Drain kept = kept_stopped Stopping refl refl w.services kept
kept_stop w (Leave true) kept = kept
kept_stop w (Leave false) kept = kept_stopped Stopped refl refl w.services kept

kept_call : (w : Worker) (call : WorkerCall) → IsKept w.services → IsAllowed w call → IsKept (after_call w call).services
kept_call w (ready token a) kept may = kept_answered w token a kept may
kept_call w (restarted token) kept may = kept_made w token kept may (position is_failed (slice_set w.services token Unavailable)) refl
kept_call w (stop graceful total) kept may = kept_stop w (stop_answer graceful total) kept

pub kept_calls : (w : Worker) (calls : List WorkerCall) → IsKept w.services → AllAllowed w calls → IsKept (after_calls w calls).services
kept_calls w [] kept may = kept
kept_calls w (call ∷ calls) kept may = kept_calls (after_call w call) calls (kept_call w call kept may.0) may.1

pub kept_run : (listeners : ℕ) (calls : List WorkerCall) → 0 < listeners → listeners ≤ 64 → AllAllowed (new_worker listeners) calls → IsKept (after_calls (new_worker listeners) calls).services
kept_run listeners calls some fits may = kept_calls (new_worker listeners) calls (kept_new listeners some fits) may

is_the_available : (s : ServiceStatus) → is_available s ≡ true → s ≡ Available
is_the_available Available e = refl
is_the_available Unavailable e = absurd (true≢false (sym e))
is_the_available Failed e = absurd (true≢false (sym e))
is_the_available Restarting e = absurd (true≢false (sym e))
is_the_available Stopping e = absurd (true≢false (sym e))
is_the_available Stopped e = absurd (true≢false (sym e))

each_available : (services : List ServiceStatus) (token : ℕ) → token < length services → list_all is_available services ≡ true → (v : Bool) → is_available (get_or services token Unavailable) ≡ v → v ≡ true
each_available services token listens every true e = refl
each_available services token listens every false e = absurd (true≢false (sym every ∙ list_all_at is_available services token Unavailable listens e))

available_every : (draining restarts every : Bool) → (if draining then state.Draining else if restarts then state.Restarting else if every then state.Available else state.Unavailable) ≡ state.Available → every ≡ true
available_every draining restarts true e = refl
available_every true restarts false e = cc
available_every false true false e = cc
available_every false false false e = cc

pub available_each : (w : Worker) (token : ℕ) → state_of w ≡ state.Available → token < length w.services → status_of w token ≡ Available
available_each w token available listens =
    is_the_available (status_of w token) (each_available w.services token listens (available_every w.draining (list_any is_restarting w.services) (list_all is_available w.services) available) (is_available (status_of w token)) refl)
