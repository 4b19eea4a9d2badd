use Rattle.http1_dispatcher.proofs.Dispatches.{pauses}
use Rattle.http1_dispatcher.proofs.dispatcher.DispatcherFuture.poll.Goals as goal

pub returns-in-Pending-clause-waits : goal.returns-in-Pending-clause-waits
returns-in-Pending-clause-waits g c =
    rw c.in-Answering.is
    (pauses g.L.Link g.S.Service g.S.Error.ErrorResponse.response g.S.Future.Future g.X.Service g.X.Error.ErrorResponse.response g.X.Future.Future
    c.in-Answering.inner.value c.run.new.self (rw c.deref_mut.ensures.value at c.run.ensures.terms) c.in-Pending.ensures.going
    (rw c.deref_mut.ensures.value at c.in-Pending.ensures.paused) (rw c.deref_mut.ensures.value at c.run.ensures.little))
