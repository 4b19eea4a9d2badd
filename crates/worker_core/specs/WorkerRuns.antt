-- Lists of calls of one worker.
use Rattle.std.specs.Prelude.{ℕ, Bool, List, [], ◌∷◌}
use Rattle.worker_core.specs.WorkerCore.{MayAsk, MayRestart, Worker, after_ready, after_restarted, after_stop, stop_answer}
use Rattle.worker_core.specs.declared.ready_answer.ReadyAnswer.{ReadyAnswer}

-- one call that changes a worker, with its arguments
pub data WorkerCall : Type 0 where
  ready : ℕ → ReadyAnswer → WorkerCall
  restarted : ℕ → WorkerCall
  stop : Bool → ℕ → WorkerCall

-- the call's condition
abbrev pub IsAllowed : Worker → WorkerCall → Type 0
IsAllowed w (ready token a) = MayAsk w token
IsAllowed w (restarted token) = MayRestart w token
IsAllowed w (stop graceful total) = Unit {0}

abbrev pub after_call : Worker → WorkerCall → Worker
after_call w (ready token a) = after_ready w token a
after_call w (restarted token) = after_restarted w token
after_call w (stop graceful total) = after_stop w (stop_answer graceful total)

-- each call is allowed where it stands
abbrev pub AllAllowed : Worker → List WorkerCall → Type 0
AllAllowed w [] = Unit {0}
AllAllowed w (call ∷ calls) = IsAllowed w call × AllAllowed (after_call w call) calls

abbrev pub after_calls : Worker → List WorkerCall → Worker
after_calls w [] = w
after_calls w (call ∷ calls) = after_calls (after_call w call) calls
