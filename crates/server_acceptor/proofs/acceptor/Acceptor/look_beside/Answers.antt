use Rattle.std.proofs.Common.{[], false, length, ap, arith}
use Rattle.server_acceptor.specs.Acceptors.{notes_of}
use Rattle.server_acceptor.proofs.BesideSteps.{received_both}
use Rattle.server_acceptor.proofs.DoesSteps.{acts_trans}
use Rattle.server_acceptor.proofs.acceptor.Acceptor.look_beside.Goals as goal

pub returns-clause-acts : goal.returns-clause-acts
returns-clause-acts g c ls d = acts_trans g.Li.Listener.given g.Li.Listener.left g.Li.Listener.rest g.L.Link.identity g.Li.Listener.ended g.Li.Listener.faults g.Do.Done.taken g.Do.Done.count g.Do.Done.served ls ls ls c.args.self.now c.look_free.new.self c.look_from.new.self d d d [] [] false
    (acts_trans g.Li.Listener.given g.Li.Listener.left g.Li.Listener.rest g.L.Link.identity g.Li.Listener.ended g.Li.Listener.faults g.Do.Done.taken g.Do.Done.count g.Do.Done.served ls ls ls c.args.self.now c.look_to.new.self c.look_free.new.self d d d [] [] false (c.look_to.ensures.acts ls d) (c.look_free.ensures.acts ls d)) (c.look_from.ensures.acts ls d)

pub returns-clause-free : goal.returns-clause-free
returns-clause-free g c =
    let free = c.look_free.ensures.free in
    let looked = c.look_from.ensures.notes in
    let more = looked.2 in
    let went = ap length looked.1 in
    let capacity = looked.0.1 in
    let same = ap length (received_both (notes_of c.look_free.new.self) (notes_of c.look_from.new.self) c.args.w c.look_from.ensures.received) in
    omega (arith, free, more, went, capacity, same)
