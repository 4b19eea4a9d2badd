use Rattle.server_acceptor.proofs.Trying.{turns_fit}
use Rattle.server_acceptor.proofs.placing.turns.Goals as goal

pub returns-clause-fits : goal.returns-clause-fits
returns-clause-fits c = turns_fit _ _ c.order.ensures.numbers c.order.ensures.distinct
