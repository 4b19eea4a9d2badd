use Rattle.std.specs.Vec.Iter.{into_iter_items, into_iter_len}
use Rattle.std.proofs.Common.{◌∷◌, [], rules, subst, sym}
use Rattle.server.specs.Replacing.{TakesBack}
use Rattle.server_jobs.specs.Returning.{entry_of_waiting}
use Rattle.server.proofs.TakeBackSteps.{ended_items, taken_all, taken_may, taken_more, taken_none}
use Rattle.server.proofs.taking_back.take_rest.Goals as goal

pub loop-waiting-init : goal.loop-waiting-init
loop-waiting-init g c = taken_none g.Li.Listener.given g.Li.Listener.left g.Li.Listener.rest g.Li.Link.Link.identity g.Li.Listener.ended g.Li.Listener.faults g.Do.Done.taken g.Do.Done.count g.Do.Done.served g.Do.Done.spare (entry_of_waiting c.args.w) c.args.w _ c.args.acceptor.now c.args.notes.now c.args.done.now (g.met.Do.Done.small c.args.done.now) c.requires.may c.requires.spare

pub take_one-requires-clause-may : goal.take_one-requires-clause-may
take_one-requires-clause-may g c =
    taken_may g.Li.Listener.given g.Li.Listener.left g.Li.Listener.rest g.Li.Link.Link.identity g.Li.Listener.ended g.Li.Listener.faults g.Do.Done.taken g.Do.Done.count g.Do.Done.served g.Do.Done.spare (entry_of_waiting c.args.w) c.args.w _ c.args.acceptor.now c.args.notes.now c.args.done.now c.in-Some.waiting (into_iter_items c.next.new.self) _ c.loop-waiting.acceptor c.loop-waiting.notes c.loop-waiting.done (search rules) c.loop-waiting.invariant

pub loop-waiting-preserved : goal.loop-waiting-preserved
loop-waiting-preserved g c =
    taken_more g.Li.Listener.given g.Li.Listener.left g.Li.Listener.rest g.Li.Link.Link.identity g.Li.Listener.ended g.Li.Listener.faults g.Do.Done.taken g.Do.Done.count g.Do.Done.served g.Do.Done.spare (entry_of_waiting c.args.w) c.args.w _ c.args.acceptor.now c.args.notes.now c.args.done.now c.in-Some.waiting _ _ c.loop-waiting.acceptor c.loop-waiting.notes c.loop-waiting.done (search rules) c.loop-waiting.invariant
    c.take_one.new.acceptor c.take_one.new.notes c.take_one.new.done c.take_one.ensures.goes (subst (λ e. TakesBack c.loop-waiting.acceptor c.take_one.new.acceptor c.args.w c.loop-waiting.notes c.take_one.new.notes (e ∷ [])) c.lost.ensures c.take_one.ensures.takes) c.take_one.ensures.spare

pub returns-clause-takes : goal.returns-clause-takes
returns-clause-takes g c =
    taken_all g.Li.Listener.given g.Li.Listener.left g.Li.Listener.rest g.Li.Link.Link.identity g.Li.Listener.ended g.Li.Listener.faults g.Do.Done.taken g.Do.Done.count g.Do.Done.served g.Do.Done.spare (entry_of_waiting c.args.w) c.args.w _ c.args.acceptor.now c.args.notes.now c.args.done.now _ c.loop-waiting.acceptor c.loop-waiting.notes c.loop-waiting.done (ended_items (into_iter_items c.loop-waiting.rest) (into_iter_len c.loop-waiting.rest) c.next.result c.next.ensures.variant.1 (search rules) (sym c.loop-waiting.rest.rest.ok.0)) c.loop-waiting.invariant
