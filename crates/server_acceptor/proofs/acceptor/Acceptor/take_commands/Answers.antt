use Rattle.std.proofs.Common.{refl, ap, length, arith}
use Rattle.server_acceptor.proofs.CommandSteps.{obeys_length}
use Rattle.server_acceptor.proofs.TakeSteps.{taken_all, taken_ended, taken_more, taken_none, taken_waits}
use Rattle.server_acceptor.proofs.acceptor.Acceptor.take_commands.Goals as goal

pub loop-k-init : goal.loop-k-init
loop-k-init g c = record {
  some = taken_none g.Do.Done.taken g.Do.Done.count g.Do.Done.served g.Co.Commands.given g.Co.Commands.stops g.Co.Commands.idles g.Co.Commands.ended c.args.self.now c.args.done.now c.args.commands.now c.args.now (g.met.Do.Done.small c.args.done.now);
  spare = c.requires.spare;
  kept = λ fact holds. holds;
  few = omega arith;
}

pub loop-k-preserved : goal.loop-k-preserved
loop-k-preserved g c = record {
  some = taken_more g.Do.Done.taken g.Do.Done.count g.Do.Done.served g.Co.Commands.given g.Co.Commands.stops g.Co.Commands.idles g.Co.Commands.ended c.args.self.now c.loop-k.self c.args.done.now c.loop-k.done c.args.commands.now c.loop-k.commands c.args.now c.loop-k.k c.loop-k.invariant.some c.obey.new.self c.obey.new.done c.next.new.self c.obey.new.commands c.in-Given.command
      c.in-Given.ensures.given c.in-Given.ensures.stops c.in-Given.ensures.idles c.in-Given.ensures.ended.0 c.in-Given.ensures.for_ever c.obey.ensures.given c.obey.ensures.stops c.obey.ensures.idles c.obey.ensures.ended c.obey.ensures.obeys;
  spare = c.obey.ensures.spare;
  kept = λ fact holds. c.next.ensures.kept fact (c.loop-k.invariant.kept fact holds);
  few = omega (arith, c.loop-k-test.true);
}

pub obey-requires-clause-room : goal.obey-requires-clause-room
obey-requires-clause-room g c =
    let o = c.loop-k.invariant.some.obeys in
    omega (arith, c.loop-k.invariant.some.many, c.loop-k-test.true, obeys_length g.Do.Done.taken g.Do.Done.count g.Do.Done.served _ c.loop-k.self _ _ _ _ o, ap (λ es. length es) c.requires.begins, c.loop-k.self.events.ok.0)

pub take_end-requires-clause-room : goal.take_end-requires-clause-room
take_end-requires-clause-room g c =
    let o = c.loop-k.invariant.some.obeys in
    omega (arith, c.loop-k.invariant.some.many, c.loop-k-test.true, obeys_length g.Do.Done.taken g.Do.Done.count g.Do.Done.served _ c.loop-k.self _ _ _ _ o, ap (λ es. length es) c.requires.begins, c.loop-k.self.events.ok.0)

pub returns-in-NotYet-clause-kept : goal.returns-in-NotYet-clause-kept
returns-in-NotYet-clause-kept g c = λ fact holds. c.next.ensures.kept fact (c.loop-k.invariant.kept fact holds)

pub returns-in-NotYet-clause-takes : goal.returns-in-NotYet-clause-takes
returns-in-NotYet-clause-takes g c = taken_waits g.Do.Done.taken g.Do.Done.count g.Do.Done.served g.Co.Commands.given g.Co.Commands.stops g.Co.Commands.idles g.Co.Commands.ended c.args.self.now c.loop-k.self c.args.done.now c.loop-k.done c.args.commands.now c.loop-k.commands c.args.now c.loop-k.k c.loop-k.invariant.some c.next.new.self c.in-NotYet.ensures.given c.in-NotYet.ensures.stops c.in-NotYet.ensures.idles c.in-NotYet.ensures.ended.0 c.in-NotYet.ensures.for_ever (omega (arith, c.loop-k-test.true))

pub returns-in-Ended-clause-kept : goal.returns-in-Ended-clause-kept
returns-in-Ended-clause-kept g c = λ fact holds. c.next.ensures.kept fact (c.loop-k.invariant.kept fact holds)

pub returns-in-Ended-clause-takes : goal.returns-in-Ended-clause-takes
returns-in-Ended-clause-takes g c = taken_ended g.Do.Done.taken g.Do.Done.count g.Do.Done.served g.Co.Commands.given g.Co.Commands.stops g.Co.Commands.idles g.Co.Commands.ended c.args.self.now c.loop-k.self c.args.done.now c.loop-k.done c.args.commands.now c.loop-k.commands c.args.now c.loop-k.k c.loop-k.invariant.some c.take_end.new.self c.take_end.new.done c.next.new.self c.in-Ended.ensures.given c.in-Ended.ensures.stops c.in-Ended.ensures.idles (c.in-Ended.ensures.ended.1 refl) (omega (arith, c.loop-k-test.true)) c.take_end.ensures.takes

pub returns-clause-takes : goal.returns-clause-takes
returns-clause-takes g c = taken_all g.Do.Done.taken g.Do.Done.count g.Do.Done.served g.Co.Commands.given g.Co.Commands.stops g.Co.Commands.idles g.Co.Commands.ended c.args.self.now c.loop-k.self c.args.done.now c.loop-k.done c.args.commands.now c.loop-k.commands c.args.now c.loop-k.k c.loop-k.invariant.some (omega (arith, c.loop-k-test.false, c.loop-k.invariant.few))
