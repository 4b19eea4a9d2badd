use Rattle.std.specs.VecDeque.{deque_len}
use Rattle.server_jobs.specs.Returning.{entry_of_note}
use Rattle.server.proofs.TakeBackSteps.{TakenFrom}
use Rattle.server.proofs.taking_back.take_owed.Given as goal

abbrev pub invariant-loop-note : goal.invariant-loop-note
invariant-loop-note g l = TakenFrom g.Li.Listener.given g.Li.Listener.left g.Li.Listener.rest g.Li.Link.Link.identity g.Li.Listener.ended g.Li.Listener.faults g.Do.Done.taken g.Do.Done.count g.Do.Done.served g.Do.Done.spare entry_of_note l.w l.fn.owed.items l.owed.items l.fn.acceptor l.acceptor l.fn.notes l.notes l.fn.done l.done

abbrev pub decreases-loop-note : goal.decreases-loop-note
decreases-loop-note g l = deque_len l.owed
