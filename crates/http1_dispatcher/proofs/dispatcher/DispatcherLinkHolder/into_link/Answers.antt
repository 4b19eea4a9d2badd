use Rattle.http1_dispatcher.proofs.Dispatches.{leaves}
use Rattle.http1_dispatcher.proofs.dispatcher.DispatcherLinkHolder.into_link.Goals as goal

pub returns-in-Answering : goal.returns-in-Answering
returns-in-Answering g c =
    let serving = rw c.in-Answering.is at c.requires in
    rw (c.in-Answering.is, c.into_inner-link.ensures)
    (leaves g.L.Link g.S.Service g.S.Error.ErrorResponse.response g.S.Future.Future g.X.Service g.X.Error.ErrorResponse.response g.X.Future.Future
    g.U.Service c.in-Answering.inner.value serving.0)
