use Rattle.std.proofs.Common.{subst, sym}
use Rattle.server_jobs.specs.Returning.{one_or_none}
use Rattle.server.specs.Replacing.{TakesBack, entry_left}
use Rattle.server.proofs.TakeBackSteps.{goes_none, takes_none}
use Rattle.server.proofs.taking_back.take_parcel.Goals as goal

pub returns-in-Stop-clause-goes : goal.returns-in-Stop-clause-goes
returns-in-Stop-clause-goes g c = goes_none g.Li.Listener.given g.Li.Listener.left g.Li.Listener.rest g.Li.Link.Link.identity g.Li.Listener.ended g.Li.Listener.faults g.Do.Done.taken g.Do.Done.count g.Do.Done.served c.args.acceptor.now c.args.done.now (g.met.Do.Done.small c.args.done.now)

pub returns-in-Stop-clause-takes : goal.returns-in-Stop-clause-takes
returns-in-Stop-clause-takes g c = subst (λ x. TakesBack c.args.acceptor.now c.args.acceptor.now c.args.w c.args.notes.now c.args.notes.now (one_or_none (entry_left c.args.outcome x))) (sym c.in-Stop.is) (takes_none c.args.acceptor.now c.args.w c.args.notes.now _ c.requires.may)
