use Rattle.std.proofs.Common.{refl, arith, subst, ◌∙◌}
use Rattle.server_acceptor.proofs.DoesSteps.{fault_after, proceeds_trans}
use Rattle.server_acceptor.proofs.OutSteps.{AskedPart, in_turn_halted, in_turn_round, round_once, round_outs}
use Rattle.server_acceptor.proofs.LeaveSteps.{leaves_trans}
use Rattle.server_acceptor.proofs.acceptor.Acceptor.ask_all.Goals as goal

pub returns-in_default-clause-in_turn : goal.returns-in_default-clause-in_turn
returns-in_default-clause-in_turn g c = in_turn_halted g.Li.Listener.given g.Li.Listener.waits g.Li.Listener.skips c.args.now c.args.listeners.now.items c.ask_from.new.listeners.items c.args.self.now c.ask_from.new.self c.args.self.now.first c.len.result
    (record { asks = c.ask_from.ensures.asks; rests = c.ask_from.ensures.rests; order = c.ask_from.ensures.order })
    refl (omega (arith, c.len.ensures, c.requires.as_many, c.ask_from.ensures.proceeds.does.acts.listeners))

pub returns-in-Settled-clause-proceeds : goal.returns-in-Settled-clause-proceeds
returns-in-Settled-clause-proceeds g c = proceeds_trans g.Li.Listener.given g.Li.Listener.left g.Li.Listener.rest g.L.Link.identity g.Li.Listener.ended g.Li.Listener.faults g.Do.Done.taken g.Do.Done.count g.Do.Done.served
    c.args.listeners.now.items c.ask_from.new.listeners.items c.ask_from-in-Settled.new.listeners.items c.args.self.now c.ask_from.new.self c.ask_from-in-Settled.new.self c.args.done.now c.ask_from.new.done c.ask_from-in-Settled.new.done c.ask_from.ensures.proceeds c.ask_from-in-Settled.ensures.proceeds

pub returns-in-Settled-clause-once : goal.returns-in-Settled-clause-once
returns-in-Settled-clause-once g c = round_once g.Li.Listener.given g.Li.Listener.waits g.Li.Listener.skips c.args.now c.args.listeners.now.items c.ask_from.new.listeners.items c.args.self.now c.ask_from.new.self c.args.self.now.first c.len.result
    (record { asks = c.ask_from.ensures.asks; rests = c.ask_from.ensures.rests; order = c.ask_from.ensures.order })
    c.ask_from-in-Settled.new.listeners.items c.ask_from-in-Settled.new.self (c.in-Settled.ensures.settled refl).1
    (subst (λ k. AskedPart g.Li.Listener.given g.Li.Listener.waits g.Li.Listener.skips c.args.now c.ask_from.new.listeners.items c.ask_from-in-Settled.new.listeners.items c.ask_from.new.self c.ask_from-in-Settled.new.self 0 k)
    c.ask_from.ensures.asks.first
    (record { asks = c.ask_from-in-Settled.ensures.asks; rests = c.ask_from-in-Settled.ensures.rests; order = c.ask_from-in-Settled.ensures.order }))

pub returns-in-Settled-clause-in_turn : goal.returns-in-Settled-clause-in_turn
returns-in-Settled-clause-in_turn g c = in_turn_round g.Li.Listener.given g.Li.Listener.waits g.Li.Listener.skips c.args.now c.args.listeners.now.items c.ask_from.new.listeners.items c.args.self.now c.ask_from.new.self c.args.self.now.first c.len.result
    (record { asks = c.ask_from.ensures.asks; rests = c.ask_from.ensures.rests; order = c.ask_from.ensures.order })
    c.ask_from-in-Settled.new.listeners.items c.ask_from-in-Settled.new.self (c.in-Settled.ensures.settled refl).1
    (subst (λ k. AskedPart g.Li.Listener.given g.Li.Listener.waits g.Li.Listener.skips c.args.now c.ask_from.new.listeners.items c.ask_from-in-Settled.new.listeners.items c.ask_from.new.self c.ask_from-in-Settled.new.self 0 k)
    c.ask_from.ensures.asks.first
    (record { asks = c.ask_from-in-Settled.ensures.asks; rests = c.ask_from-in-Settled.ensures.rests; order = c.ask_from-in-Settled.ensures.order }))
    refl (omega (arith, c.len.ensures, c.requires.as_many, c.ask_from.ensures.proceeds.does.acts.listeners, c.ask_from-in-Settled.ensures.proceeds.does.acts.listeners))

pub returns-in-Settled-clause-settled : goal.returns-in-Settled-clause-settled
returns-in-Settled-clause-settled g c is =
    let settles = c.ask_from-in-Settled.ensures.settled is in (
      settles.0,
      λ t inside. round_outs g.Li.Listener.given g.Li.Listener.waits g.Li.Listener.skips c.args.now c.args.listeners.now.items c.ask_from.new.listeners.items c.args.self.now c.ask_from.new.self c.args.self.now.first c.len.result
          (record { asks = c.ask_from.ensures.asks; rests = c.ask_from.ensures.rests; order = c.ask_from.ensures.order })
          c.ask_from-in-Settled.new.listeners.items c.ask_from-in-Settled.new.self (c.in-Settled.ensures.settled refl).1
          (subst (λ k. AskedPart g.Li.Listener.given g.Li.Listener.waits g.Li.Listener.skips c.args.now c.ask_from.new.listeners.items c.ask_from-in-Settled.new.listeners.items c.ask_from.new.self c.ask_from-in-Settled.new.self 0 k)
          c.ask_from.ensures.asks.first
          (record { asks = c.ask_from-in-Settled.ensures.asks; rests = c.ask_from-in-Settled.ensures.rests; order = c.ask_from-in-Settled.ensures.order }))
          (λ v above below. settles.1 v above (omega (arith, below, c.ask_from.ensures.asks.first))) t
          (omega (arith, inside, c.len.ensures, c.requires.as_many, c.ask_from.ensures.proceeds.does.acts.listeners, c.ask_from-in-Settled.ensures.proceeds.does.acts.listeners)),
    )

pub returns-in-Settled-clause-ended : goal.returns-in-Settled-clause-ended
returns-in-Settled-clause-ended g c w is =
    let ends = c.ask_from-in-Settled.ensures.ended w is in (
      ends.0,
      fault_after g.Li.Listener.given g.Li.Listener.left g.Li.Listener.rest g.L.Link.identity g.Li.Listener.ended g.Li.Listener.faults g.Do.Done.taken g.Do.Done.count g.Do.Done.served
          c.args.listeners.now.items c.ask_from.new.listeners.items c.ask_from-in-Settled.new.listeners.items c.args.self.now c.ask_from.new.self c.ask_from-in-Settled.new.self c.args.done.now c.ask_from.new.done c.ask_from-in-Settled.new.done w c.ask_from.ensures.proceeds ends.1,
    )

pub returns-in_default-clause-given : goal.returns-in_default-clause-given
returns-in_default-clause-given g c = c.ask_from.ensures.given

pub returns-in_default-clause-spare : goal.returns-in_default-clause-spare
returns-in_default-clause-spare g c = c.ask_from.ensures.spare

pub returns-in_default-clause-refusals : goal.returns-in_default-clause-refusals
returns-in_default-clause-refusals g c = c.ask_from.ensures.refusals

pub returns-in_default-clause-on : goal.returns-in_default-clause-on
returns-in_default-clause-on g c = c.ask_from.ensures.on

pub returns-in_default-clause-halted : goal.returns-in_default-clause-halted
returns-in_default-clause-halted g c = c.ask_from.ensures.halted

pub returns-in_default-clause-ended : goal.returns-in_default-clause-ended
returns-in_default-clause-ended g c = c.ask_from.ensures.ended

pub returns-in_default-clause-proceeds : goal.returns-in_default-clause-proceeds
returns-in_default-clause-proceeds g c = c.ask_from.ensures.proceeds

pub returns-in_default-clause-first : goal.returns-in_default-clause-first
returns-in_default-clause-first g c = c.ask_from.ensures.asks.first

pub returns-in_default-clause-once : goal.returns-in_default-clause-once
returns-in_default-clause-once g c = c.ask_from.ensures.asks.once

pub returns-in_default-clause-leaves : goal.returns-in_default-clause-leaves
returns-in_default-clause-leaves g c = c.ask_from.ensures.asks.leaves

pub returns-in_default-clause-settled : goal.returns-in_default-clause-settled
returns-in_default-clause-settled g c = λ is. absurd (c.in_default.not-Settled is)

pub returns-in-Settled-clause-given : goal.returns-in-Settled-clause-given
returns-in-Settled-clause-given g c = c.ask_from-in-Settled.ensures.given

pub returns-in-Settled-clause-spare : goal.returns-in-Settled-clause-spare
returns-in-Settled-clause-spare g c = c.ask_from-in-Settled.ensures.spare

pub returns-in-Settled-clause-refusals : goal.returns-in-Settled-clause-refusals
returns-in-Settled-clause-refusals g c = c.ask_from-in-Settled.ensures.refusals

pub returns-in-Settled-clause-on : goal.returns-in-Settled-clause-on
returns-in-Settled-clause-on g c = c.ask_from-in-Settled.ensures.on

pub returns-in-Settled-clause-halted : goal.returns-in-Settled-clause-halted
returns-in-Settled-clause-halted g c = c.ask_from-in-Settled.ensures.halted

pub returns-in-Settled-clause-first : goal.returns-in-Settled-clause-first
returns-in-Settled-clause-first g c = c.ask_from-in-Settled.ensures.asks.first ∙ c.ask_from.ensures.asks.first

pub returns-in-Settled-clause-leaves : goal.returns-in-Settled-clause-leaves
returns-in-Settled-clause-leaves g c = leaves_trans c.args.self.now c.ask_from.new.self c.ask_from-in-Settled.new.self c.ask_from.ensures.asks.leaves c.ask_from-in-Settled.ensures.asks.leaves
