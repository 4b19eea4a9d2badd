use Rattle.server_acceptor.proofs.AskDoes.{ask_does, comes_to, given_on}
use Rattle.server_acceptor.proofs.AskSteps.{may_fail}
use Rattle.server_acceptor.proofs.RoomSteps.{may_take_now}
use Rattle.server_acceptor.proofs.acceptor.Acceptor.ask_listener.Goals as goal

pub ask-requires-clause-may : goal.ask-requires-clause-may
ask-requires-clause-may g c = may_take_now c.args.self.now c.requires.may c.requires.accepts

pub returns-clause-given : goal.returns-clause-given
returns-clause-given g c = given_on _ _ _ c.args.self.now c.ask.new.self c.args.t c.ask.ensures.listeners c.ask.result c.ask.ensures.leaves c.ask.ensures.given c.requires.given

pub returns-clause-does : goal.returns-clause-does
returns-clause-does g c d = ask_does g.Li.Listener.given g.Li.Listener.left g.Li.Listener.rest g.L.Link.identity g.Li.Listener.ended g.Li.Listener.faults _ _ c.args.self.now c.ask.new.self c.args.t
    c.requires.opened c.requires.ready c.ask.ensures.listeners c.ask.ensures.faults c.ask.ensures.asks c.ask.ensures.logs c.ask.ensures.failed c.ask.ensures.carries c.requires.may
    g.Do.Done.taken g.Do.Done.count g.Do.Done.served d (g.met.Do.Done.small d) _ _ _ c.ask.result (may_fail c.args.self.now.core _ c.args.t c.args.self.now.patient c.requires.opened) c.ask.ensures.ended_only c.ask.ensures.marked c.ask.ensures.counted c.ask.ensures.asked

pub returns-clause-comes : goal.returns-clause-comes
returns-clause-comes g c = comes_to g.Li.Listener.given g.Li.Listener.left g.Li.Listener.rest g.L.Link.identity g.Li.Listener.ended g.Li.Listener.faults _ _ c.args.self.now c.ask.new.self c.args.t
    c.requires.opened c.requires.ready c.ask.ensures.listeners c.ask.ensures.faults c.ask.ensures.asks c.ask.ensures.logs c.ask.ensures.failed c.ask.ensures.carries c.requires.may
    _ _ _ c.ask.result c.ask.ensures.asked c.ask.ensures.leaves
