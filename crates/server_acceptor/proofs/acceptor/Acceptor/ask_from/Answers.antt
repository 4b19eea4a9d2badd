use Rattle.std.proofs.Common.{◌+◌, refl, ap, arith, inl, inr}
use Rattle.server_acceptor.proofs.DoesSteps.{fault_after, proceeds_none, proceeds_trans}
use Rattle.server_acceptor.proofs.OutSteps.{asks_within, to_asks, to_more, to_none, to_order, to_rests}
use Rattle.std.specs.Prelude.{is_some}
use Rattle.server_acceptor.proofs.StepKinds.{settled_not_ended, settled_not_halted, settled_not_on}
use Rattle.server_acceptor.proofs.acceptor.Acceptor.ask_from.Goals as goal

pub loop-t-init : goal.loop-t-init
loop-t-init g c = record {
  proceeds = proceeds_none g.Li.Listener.given g.Li.Listener.left g.Li.Listener.rest g.L.Link.identity g.Li.Listener.ended g.Li.Listener.faults g.Do.Done.taken g.Do.Done.count g.Do.Done.served _ c.args.self.now c.args.done.now (g.met.Do.Done.small c.args.done.now);
  asked = to_none g.Li.Listener.given g.Li.Listener.waits g.Li.Listener.skips c.args.now _ c.args.self.now c.args.from;
  above = omega arith;
  below = inr refl;
  may = c.requires.may;
  given = c.requires.given;
  spare = c.requires.spare;
}

pub loop-t-preserved : goal.loop-t-preserved
loop-t-preserved g c =
    let settles = c.in-Settled.ensures.settled refl in
    record {
      proceeds = proceeds_trans g.Li.Listener.given g.Li.Listener.left g.Li.Listener.rest g.L.Link.identity g.Li.Listener.ended g.Li.Listener.faults g.Do.Done.taken g.Do.Done.count g.Do.Done.served
          c.args.listeners.now.items c.loop-t.listeners.items c.ask_out.new.listeners.items c.args.self.now c.loop-t.self c.ask_out.new.self c.args.done.now c.loop-t.done c.ask_out.new.done c.loop-t.invariant.proceeds c.ask_out.ensures.proceeds;
      asked = to_more g.Li.Listener.given g.Li.Listener.waits g.Li.Listener.skips c.args.now c.args.listeners.now.items c.args.self.now c.args.from c.loop-t.listeners.items c.ask_out.new.listeners.items c.loop-t.self c.ask_out.new.self c.loop-t.t c.loop-t.invariant.above c.loop-t.invariant.asked c.ask_out.ensures.asks
          (λ backed. ap (λ v. v.items) (c.ask_out.ensures.rests backed)) settles.1;
      above = omega (arith, c.loop-t.invariant.above);
      below = inl (omega (arith, c.loop-t-test.true));
      may = settles.0;
      given = c.ask_out.ensures.given;
      spare = c.ask_out.ensures.spare;
    }

pub returns-in_default-clause-proceeds : goal.returns-in_default-clause-proceeds
returns-in_default-clause-proceeds g c = proceeds_trans g.Li.Listener.given g.Li.Listener.left g.Li.Listener.rest g.L.Link.identity g.Li.Listener.ended g.Li.Listener.faults g.Do.Done.taken g.Do.Done.count g.Do.Done.served
    c.args.listeners.now.items c.loop-t.listeners.items c.ask_out.new.listeners.items c.args.self.now c.loop-t.self c.ask_out.new.self c.args.done.now c.loop-t.done c.ask_out.new.done c.loop-t.invariant.proceeds c.ask_out.ensures.proceeds

pub returns-in_default-clause-asks : goal.returns-in_default-clause-asks
returns-in_default-clause-asks g c = asks_within c.args.listeners.now.items c.ask_out.new.listeners.items c.args.self.now c.ask_out.new.self c.args.from (c.loop-t.t + 1) c.args.to
    (inl (omega (arith, c.loop-t-test.true))) (to_asks g.Li.Listener.given g.Li.Listener.waits g.Li.Listener.skips c.args.now c.args.listeners.now.items c.args.self.now c.args.from c.loop-t.listeners.items c.ask_out.new.listeners.items c.loop-t.self c.ask_out.new.self c.loop-t.t c.loop-t.invariant.above c.loop-t.invariant.asked c.ask_out.ensures.asks)

pub returns-in_default-clause-rests : goal.returns-in_default-clause-rests
returns-in_default-clause-rests g c = to_rests g.Li.Listener.given g.Li.Listener.waits g.Li.Listener.skips c.args.now c.args.listeners.now.items c.args.self.now c.args.from c.loop-t.listeners.items c.ask_out.new.listeners.items c.loop-t.self c.ask_out.new.self c.loop-t.t c.loop-t.invariant.above c.loop-t.invariant.asked c.ask_out.ensures.asks
    (λ backed. ap (λ v. v.items) (c.ask_out.ensures.rests backed))

pub returns-in_default-clause-order : goal.returns-in_default-clause-order
returns-in_default-clause-order g c t u above less below = to_order g.Li.Listener.given g.Li.Listener.waits g.Li.Listener.skips c.args.now c.args.listeners.now.items c.args.self.now c.args.from c.loop-t.listeners.items c.ask_out.new.listeners.items c.loop-t.self c.ask_out.new.self c.loop-t.t c.loop-t.invariant.above c.loop-t.invariant.asked c.ask_out.ensures.asks
    t u above less

pub returns-in_default-clause-ended : goal.returns-in_default-clause-ended
returns-in_default-clause-ended g c w is =
    let ends = c.ask_out.ensures.ended w is in (
      ends.0,
      fault_after g.Li.Listener.given g.Li.Listener.left g.Li.Listener.rest g.L.Link.identity g.Li.Listener.ended g.Li.Listener.faults g.Do.Done.taken g.Do.Done.count g.Do.Done.served
          c.args.listeners.now.items c.loop-t.listeners.items c.ask_out.new.listeners.items c.args.self.now c.loop-t.self c.ask_out.new.self c.args.done.now c.loop-t.done c.ask_out.new.done w c.loop-t.invariant.proceeds ends.1,
    )

pub returns-clause-asks : goal.returns-clause-asks
returns-clause-asks g c = asks_within c.args.listeners.now.items c.loop-t.listeners.items c.args.self.now c.loop-t.self c.args.from c.loop-t.t c.args.to c.loop-t.invariant.below c.loop-t.invariant.asked.asks

pub returns-clause-order : goal.returns-clause-order
returns-clause-order g c t u above less below = inr (c.loop-t.invariant.asked.outs t above (omega (arith, less, below, c.loop-t-test.false)))

pub returns-clause-settled : goal.returns-clause-settled
returns-clause-settled g c is = (c.loop-t.invariant.may, λ t above below. c.loop-t.invariant.asked.outs t above (omega (arith, below, c.loop-t-test.false)))

pub returns-in_default-clause-given : goal.returns-in_default-clause-given
returns-in_default-clause-given g c = c.ask_out.ensures.given

pub returns-in_default-clause-spare : goal.returns-in_default-clause-spare
returns-in_default-clause-spare g c = c.ask_out.ensures.spare

pub returns-in_default-clause-refusals : goal.returns-in_default-clause-refusals
returns-in_default-clause-refusals g c = c.ask_out.ensures.refusals

pub returns-in_default-clause-on : goal.returns-in_default-clause-on
returns-in_default-clause-on g c = c.ask_out.ensures.on

pub returns-in_default-clause-halted : goal.returns-in_default-clause-halted
returns-in_default-clause-halted g c = c.ask_out.ensures.halted

pub returns-in_default-clause-settled : goal.returns-in_default-clause-settled
returns-in_default-clause-settled g c = λ is. absurd (c.in_default.not-Settled is)

pub returns-clause-given : goal.returns-clause-given
returns-clause-given g c = c.loop-t.invariant.given

pub returns-clause-spare : goal.returns-clause-spare
returns-clause-spare g c = c.loop-t.invariant.spare

pub returns-clause-proceeds : goal.returns-clause-proceeds
returns-clause-proceeds g c = c.loop-t.invariant.proceeds

pub returns-clause-rests : goal.returns-clause-rests
returns-clause-rests g c = c.loop-t.invariant.asked.rests

pub returns-clause-refusals : goal.returns-clause-refusals
returns-clause-refusals g c = ap is_some c.loop-t.invariant.may.unrefused

pub returns-clause-on : goal.returns-clause-on
returns-clause-on g c = λ is. absurd (settled_not_on is)

pub returns-clause-halted : goal.returns-clause-halted
returns-clause-halted g c = λ is. absurd (settled_not_halted is)

pub returns-clause-ended : goal.returns-clause-ended
returns-clause-ended g c w = λ is. absurd (settled_not_ended w is)
