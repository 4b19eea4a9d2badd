use Rattle.std.specs.Vec.Iter.{into_iter_items, into_iter_len}
use Rattle.server_jobs.specs.Returning.{entry_of_waiting}
use Rattle.server.proofs.TakeBackSteps.{TakenFrom}
use Rattle.server.proofs.taking_back.take_rest.Given as goal

abbrev pub invariant-loop-waiting : goal.invariant-loop-waiting
invariant-loop-waiting g l = TakenFrom g.Li.Listener.given g.Li.Listener.left g.Li.Listener.rest g.Li.Link.Link.identity g.Li.Listener.ended g.Li.Listener.faults g.Do.Done.taken g.Do.Done.count g.Do.Done.served g.Do.Done.spare (entry_of_waiting l.w) l.w (into_iter_items l.fn.rest) (into_iter_items l.rest) l.fn.acceptor l.acceptor l.fn.notes l.notes l.fn.done l.done

abbrev pub decreases-loop-waiting : goal.decreases-loop-waiting
decreases-loop-waiting g l = into_iter_len l.rest
