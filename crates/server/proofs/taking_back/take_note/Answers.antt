use Rattle.server.proofs.TakeBackSteps.{goes_none}
use Rattle.server.proofs.taking_back.take_note.Goals as goal

pub returns-in-Ready-clause-goes : goal.returns-in-Ready-clause-goes
returns-in-Ready-clause-goes g c = goes_none g.Li.Listener.given g.Li.Listener.left g.Li.Listener.rest g.Li.Link.Link.identity g.Li.Listener.ended g.Li.Listener.faults g.Do.Done.taken g.Do.Done.count g.Do.Done.served c.args.acceptor.now c.args.done.now (g.met.Do.Done.small c.args.done.now)
