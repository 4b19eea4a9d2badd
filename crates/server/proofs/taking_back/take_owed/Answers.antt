use Rattle.std.proofs.Common.{◌≡◌, true, rules}
use Rattle.std.specs.Prelude.{is_some}
use Rattle.server_acceptor.specs.Acceptors.{core_of}
use Rattle.server_jobs.specs.Returning.{entry_of_note, one_or_none}
use Rattle.server_run.specs.Outcome.{is_stopped}
use Rattle.server.proofs.TakeBackSteps.{founded_after, founded_first, founded_left, taken_all, taken_may, taken_more, taken_none}
use Rattle.server.proofs.taking_back.take_owed.Goals as goal

pub loop-note-init : goal.loop-note-init
loop-note-init g c = taken_none g.Li.Listener.given g.Li.Listener.left g.Li.Listener.rest g.Li.Link.Link.identity g.Li.Listener.ended g.Li.Listener.faults g.Do.Done.taken g.Do.Done.count g.Do.Done.served g.Do.Done.spare entry_of_note c.args.w _ c.args.acceptor.now c.args.notes.now c.args.done.now (g.met.Do.Done.small c.args.done.now) c.requires.may c.requires.spare

pub take_note-requires-clause-may : goal.take_note-requires-clause-may
take_note-requires-clause-may g c =
    taken_may g.Li.Listener.given g.Li.Listener.left g.Li.Listener.rest g.Li.Link.Link.identity g.Li.Listener.ended g.Li.Listener.faults g.Do.Done.taken g.Do.Done.count g.Do.Done.served g.Do.Done.spare entry_of_note c.args.w _ c.args.acceptor.now c.args.notes.now c.args.done.now c.in-Some.note c.pop_front.new.self.items c.loop-note.owed.items c.loop-note.acceptor c.loop-note.notes c.loop-note.done (search rules) c.loop-note.invariant

pub take_note-requires-clause-founded : goal.take_note-requires-clause-founded
take_note-requires-clause-founded g c =
    founded_after c.args.acceptor.now c.loop-note.acceptor (one_or_none (entry_of_note c.in-Some.note)) c.loop-note.invariant.takes.rest
    (founded_first entry_of_note c.in-Some.note c.pop_front.new.self.items c.loop-note.owed.items (λ e. is_stopped e.outcome ≡ true → is_some (core_of c.args.acceptor.now).stopping ≡ true) (search rules)
    (founded_left entry_of_note c.loop-note.invariant.went c.loop-note.owed.items c.args.owed.now.items (λ e. is_stopped e.outcome ≡ true → is_some (core_of c.args.acceptor.now).stopping ≡ true) c.loop-note.invariant.is c.requires.founded))

pub loop-note-preserved : goal.loop-note-preserved
loop-note-preserved g c =
    taken_more g.Li.Listener.given g.Li.Listener.left g.Li.Listener.rest g.Li.Link.Link.identity g.Li.Listener.ended g.Li.Listener.faults g.Do.Done.taken g.Do.Done.count g.Do.Done.served g.Do.Done.spare entry_of_note c.args.w _ c.args.acceptor.now c.args.notes.now c.args.done.now c.in-Some.note _ _ c.loop-note.acceptor c.loop-note.notes c.loop-note.done (search rules) c.loop-note.invariant
    c.take_note.new.acceptor c.take_note.new.notes c.take_note.new.done c.take_note.ensures.goes c.take_note.ensures.takes c.take_note.ensures.spare

pub returns-clause-takes : goal.returns-clause-takes
returns-clause-takes g c =
    taken_all g.Li.Listener.given g.Li.Listener.left g.Li.Listener.rest g.Li.Link.Link.identity g.Li.Listener.ended g.Li.Listener.faults g.Do.Done.taken g.Do.Done.count g.Do.Done.served g.Do.Done.spare entry_of_note c.args.w _ c.args.acceptor.now c.args.notes.now c.args.done.now _ c.loop-note.acceptor c.loop-note.notes c.loop-note.done (search rules) c.loop-note.invariant
