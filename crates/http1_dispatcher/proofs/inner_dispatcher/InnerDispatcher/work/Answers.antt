use Rattle.std.specs.Arc.{arc_value}
use Rattle.http1_dispatcher.specs.Connecting.{relations_of}
use Rattle.http1_dispatcher.specs.Dispatching.{start_of}
use Rattle.http1_dispatcher.proofs.GoingSteps.{memory_ends, memory_exits, unmoved}
use Rattle.http1_dispatcher.proofs.inner_dispatcher.InnerDispatcher.work.Goals as goal

pub returns-in-Ready-Out-clause-turns : goal.returns-in-Ready-Out-clause-turns
returns-in-Ready-Out-clause-turns g c =
    rw c.answer.ensures.terms (memory_exits g.L.Link
    (relations_of g.S.Service g.S.Error.ErrorResponse.response g.X.Service g.X.Error.ErrorResponse.response (arc_value c.loop-self.self.terms.flow))
    (start_of c.loop-self.self.terms) g.S.Future.Future g.X.Future.Future _ _ c.loop-self.self.exchange c.answer.new.self.exchange
    c.loop-self.self.awaited c.answer.new.self.awaited _ (rw c.in-Ready-Out.field-0-is at c.in-Ready-Out.ensures.turns) c.answer.ensures.link
    c.loop-self.invariant.going)

pub returns-in-Err-clause-turns : goal.returns-in-Err-clause-turns
returns-in-Err-clause-turns g c =
    let wrote = rw c.in-Ready-On-make_room.field-0-is at c.in-Ready-On-make_room.ensures.turns in
    let functions = relations_of g.S.Service g.S.Error.ErrorResponse.response g.X.Service g.X.Error.ErrorResponse.response (arc_value c.make_room.new.self.terms.flow) in
    let start = start_of c.make_room.new.self.terms in
    rw (c.begin.ensures.terms, c.begin.ensures.link)
    (memory_ends g.L.Link functions start g.S.Future.Future g.X.Future.Future _ _ c.make_room.new.self.exchange _
    (unmoved g.L.Link functions start g.S.Future.Future g.X.Future.Future c.make_room.new.self.link) wrote.0)
