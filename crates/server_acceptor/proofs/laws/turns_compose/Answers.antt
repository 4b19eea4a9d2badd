use Rattle.server_acceptor.proofs.DoesSteps.{does_trans}
use Rattle.server_acceptor.proofs.laws.turns_compose.Goals as goal

pub returns : goal.returns
returns g d before middle after a b c old between new events more p q =
    does_trans g.Li.Listener.given g.Li.Listener.left g.Li.Listener.rest g.Li.Link.Link.identity g.Li.Listener.ended g.Li.Listener.faults g.Do.Done.taken g.Do.Done.count g.Do.Done.served before middle after a b c old between new events more p q
