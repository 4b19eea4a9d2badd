use Rattle.std.proofs.Common.{refl, rules, ◌+◌, ℕ, List, ap, arith}
use Rattle.std.specs.Prelude.{is_some}
use Rattle.server_acceptor.specs.Accepting.{AsksFrom}
use Rattle.server_acceptor.specs.declared.acceptor.Acceptor.{Acceptor}
use Rattle.server_acceptor.proofs.LeaveSteps.{leaves_none}
use Rattle.server_acceptor.proofs.DoesSteps.{fault_after, proceeds_none, proceeds_trans}
use Rattle.server_acceptor.proofs.OutSteps.{asked_more, asked_none, asked_settled, asks_more}
use Rattle.server_acceptor.proofs.StepKinds.{settled_not_ended, settled_not_halted, settled_not_on}
use Rattle.server_acceptor.proofs.acceptor.Acceptor.ask_out.Goals as goal

asks_nothing : {Li L : Type 0} (l : List Li) (a : Acceptor L) (from to : ℕ) → AsksFrom l l a a from to
asks_nothing l a from to = record { leaves = leaves_none a; first = refl; listeners = λ v out. refl; failed = λ v out. refl; ended = λ v out. refl; others = λ v out. refl; once = λ v. omega arith }

pub returns-then-is_backed_off-clause-proceeds : goal.returns-then-is_backed_off-clause-proceeds
returns-then-is_backed_off-clause-proceeds g c = proceeds_none g.Li.Listener.given g.Li.Listener.left g.Li.Listener.rest g.L.Link.identity g.Li.Listener.ended g.Li.Listener.faults g.Do.Done.taken g.Do.Done.count g.Do.Done.served _ c.args.self.now c.args.done.now (g.met.Do.Done.small c.args.done.now)

pub loop-k-init : goal.loop-k-init
loop-k-init g c = record {
  proceeds = proceeds_none g.Li.Listener.given g.Li.Listener.left g.Li.Listener.rest g.L.Link.identity g.Li.Listener.ended g.Li.Listener.faults g.Do.Done.taken g.Do.Done.count g.Do.Done.served _ c.args.self.now c.args.done.now (g.met.Do.Done.small c.args.done.now);
  asked = asked_none g.Li.Listener.given g.Li.Listener.waits g.Li.Listener.skips _ c.args.self.now c.args.t (search rules) c.requires.may;
  given = c.requires.given;
  spare = c.requires.spare;
}

pub loop-k-preserved : goal.loop-k-preserved
loop-k-preserved g c =
    let on = c.in-On.ensures.on refl in
    record {
      proceeds = proceeds_trans g.Li.Listener.given g.Li.Listener.left g.Li.Listener.rest g.L.Link.identity g.Li.Listener.ended g.Li.Listener.faults g.Do.Done.taken g.Do.Done.count g.Do.Done.served
          c.args.listeners.now.items c.loop-k.listeners.items c.ask_once.new.listeners.items c.args.self.now c.loop-k.self c.ask_once.new.self c.args.done.now c.loop-k.done c.ask_once.new.done c.loop-k.invariant.proceeds c.ask_once.ensures.proceeds;
      asked = asked_more g.Li.Listener.given g.Li.Listener.waits g.Li.Listener.skips c.args.listeners.now.items c.args.self.now c.args.t c.loop-k.listeners.items c.ask_once.new.listeners.items c.loop-k.self c.ask_once.new.self c.loop-k.k c.loop-k.invariant.asked c.ask_once.ensures.asks
          c.ask_once.ensures.counts on.0 on.1 on.2 on.3;
      given = c.ask_once.ensures.given;
      spare = c.ask_once.ensures.spare;
    }

pub returns-in_default-clause-proceeds : goal.returns-in_default-clause-proceeds
returns-in_default-clause-proceeds g c = proceeds_trans g.Li.Listener.given g.Li.Listener.left g.Li.Listener.rest g.L.Link.identity g.Li.Listener.ended g.Li.Listener.faults g.Do.Done.taken g.Do.Done.count g.Do.Done.served
    c.args.listeners.now.items c.loop-k.listeners.items c.ask_once.new.listeners.items c.args.self.now c.loop-k.self c.ask_once.new.self c.args.done.now c.loop-k.done c.ask_once.new.done c.loop-k.invariant.proceeds c.ask_once.ensures.proceeds

pub returns-in_default-clause-asks : goal.returns-in_default-clause-asks
returns-in_default-clause-asks g c = asks_more g.Li.Listener.given g.Li.Listener.waits g.Li.Listener.skips c.args.listeners.now.items c.args.self.now c.args.t c.loop-k.listeners.items c.ask_once.new.listeners.items c.loop-k.self c.ask_once.new.self c.loop-k.k c.loop-k.invariant.asked c.ask_once.ensures.asks

pub returns-in_default-clause-settled : goal.returns-in_default-clause-settled
returns-in_default-clause-settled g c is =
    let settles = c.ask_once.ensures.settled is in
    (settles.0, asked_settled g.Li.Listener.given g.Li.Listener.waits g.Li.Listener.skips c.args.listeners.now.items c.args.self.now c.args.t c.loop-k.listeners.items c.ask_once.new.listeners.items c.loop-k.self c.ask_once.new.self c.loop-k.k c.loop-k.invariant.asked c.ask_once.ensures.asks c.args.now settles.1)

pub returns-in_default-clause-ended : goal.returns-in_default-clause-ended
returns-in_default-clause-ended g c w is =
    let ends = c.ask_once.ensures.ended w is in (
      ends.0,
      fault_after g.Li.Listener.given g.Li.Listener.left g.Li.Listener.rest g.L.Link.identity g.Li.Listener.ended g.Li.Listener.faults g.Do.Done.taken g.Do.Done.count g.Do.Done.served
          c.args.listeners.now.items c.loop-k.listeners.items c.ask_once.new.listeners.items c.args.self.now c.loop-k.self c.ask_once.new.self c.args.done.now c.loop-k.done c.ask_once.new.done w c.loop-k.invariant.proceeds ends.1,
    )

pub returns-then-is_backed_off-clause-given : goal.returns-then-is_backed_off-clause-given
returns-then-is_backed_off-clause-given g c = c.requires.given

pub returns-then-is_backed_off-clause-spare : goal.returns-then-is_backed_off-clause-spare
returns-then-is_backed_off-clause-spare g c = c.requires.spare

pub returns-then-is_backed_off-clause-asks : goal.returns-then-is_backed_off-clause-asks
returns-then-is_backed_off-clause-asks g c = asks_nothing c.args.listeners.now.items c.args.self.now c.args.t (c.args.t + 1)

pub returns-then-is_backed_off-clause-rests : goal.returns-then-is_backed_off-clause-rests
returns-then-is_backed_off-clause-rests g c = λ _. refl

pub returns-then-is_backed_off-clause-refusals : goal.returns-then-is_backed_off-clause-refusals
returns-then-is_backed_off-clause-refusals g c = ap is_some c.requires.may.unrefused

pub returns-then-is_backed_off-clause-on : goal.returns-then-is_backed_off-clause-on
returns-then-is_backed_off-clause-on g c = λ is. absurd (settled_not_on is)

pub returns-then-is_backed_off-clause-halted : goal.returns-then-is_backed_off-clause-halted
returns-then-is_backed_off-clause-halted g c = λ is. absurd (settled_not_halted is)

pub returns-then-is_backed_off-clause-ended : goal.returns-then-is_backed_off-clause-ended
returns-then-is_backed_off-clause-ended g c w = λ is. absurd (settled_not_ended w is)

pub returns-in_default-clause-given : goal.returns-in_default-clause-given
returns-in_default-clause-given g c = c.ask_once.ensures.given

pub returns-in_default-clause-spare : goal.returns-in_default-clause-spare
returns-in_default-clause-spare g c = c.ask_once.ensures.spare

pub returns-in_default-clause-refusals : goal.returns-in_default-clause-refusals
returns-in_default-clause-refusals g c = c.ask_once.ensures.refusals

pub returns-in_default-clause-halted : goal.returns-in_default-clause-halted
returns-in_default-clause-halted g c = c.ask_once.ensures.halted

pub returns-in_default-clause-rests : goal.returns-in_default-clause-rests
returns-in_default-clause-rests g c = λ backed. absurd (c.is_backed_off.ensures.no c.if-is_backed_off.false backed)

pub returns-in_default-clause-on : goal.returns-in_default-clause-on
returns-in_default-clause-on g c = λ is. absurd (c.in_default.not-On is)

pub returns-clause-given : goal.returns-clause-given
returns-clause-given g c = c.loop-k.invariant.given

pub returns-clause-spare : goal.returns-clause-spare
returns-clause-spare g c = c.loop-k.invariant.spare

pub returns-clause-proceeds : goal.returns-clause-proceeds
returns-clause-proceeds g c = c.loop-k.invariant.proceeds

pub returns-clause-asks : goal.returns-clause-asks
returns-clause-asks g c = c.loop-k.invariant.asked.asks

pub returns-clause-rests : goal.returns-clause-rests
returns-clause-rests g c = λ backed. absurd (c.is_backed_off.ensures.no c.if-is_backed_off.false backed)

pub returns-clause-refusals : goal.returns-clause-refusals
returns-clause-refusals g c = ap is_some c.loop-k.invariant.asked.may.unrefused

pub returns-clause-on : goal.returns-clause-on
returns-clause-on g c = λ is. absurd (settled_not_on is)

pub returns-clause-halted : goal.returns-clause-halted
returns-clause-halted g c = λ is. absurd (settled_not_halted is)

pub returns-clause-ended : goal.returns-clause-ended
returns-clause-ended g c w = λ is. absurd (settled_not_ended w is)
