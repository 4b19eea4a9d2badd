use Rattle.std.specs.VecDeque.{deque_len}
use Rattle.server_worker.specs.Leaving.{Unqueues}
use Rattle.server_worker.proofs.connections.Connections.unqueue.Given as goal

abbrev pub invariant-loop : goal.invariant-loop
invariant-loop g l = Unqueues l.fn.self l.self

abbrev pub decreases-loop : goal.decreases-loop
decreases-loop g l = deque_len l.self.queue
