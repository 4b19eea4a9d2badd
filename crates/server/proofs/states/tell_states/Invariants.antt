use Rattle.std.proofs.Common.{◌≡◌, ◌≤◌, ℕ, length, vec_capacity, slice_get, IfSome}
use Rattle.server_acceptor.specs.Acceptors.{core_of, retry_limit_of}
use Rattle.server_acceptor.specs.States.{IsStateOf}
use Rattle.server.proofs.states.tell_states.Given as goal

abbrev pub invariant-loop-token : goal.invariant-loop-token
invariant-loop-token g l = (length l.states.items ≡ l.token) × (l.listeners ≤ vec_capacity l.states)
    × ((t : ℕ) → IfSome (slice_get l.states.items t) (IsStateOf (core_of l.acceptor) (retry_limit_of l.acceptor) t))
