use Rattle.http1_dispatcher.specs.Connecting.{hands_of, relations_of}
use Rattle.http1_dispatcher.proofs.Written as written
use Rattle.http1_dispatcher.proofs.laws.served_writes.Goals as goal

pub returns : goal.returns
returns g c = λ flow. written.served_writes g.L.Link
    (relations_of g.S.Service g.S.Error.ErrorResponse.response g.X.Service g.X.Error.ErrorResponse.response flow) (hands_of g.U.Service flow)
