use Rattle.std.proofs.Common.{◌≤◌, ◌+◌, ◌%◌, None, refl, rules, sym, ◌∙◌, ap, ap₂, arith, subst, inl, inr}
use Rattle.std.specs.Prelude.{count_by, slice_index_or, sum}
use Rattle.server_core.specs.Core.{held}
use Rattle.server_acceptor.specs.Accepting.{OnceEach, is_command}
use Rattle.server_acceptor.proofs.CommandSteps.{obeys_proceeds}
use Rattle.server_acceptor.proofs.DoesSteps.{proceeds_trans}
use Rattle.server_acceptor.proofs.TurnSteps.{SeenSame, asked_same, ended_same, ends_same, few_idle, given_kept, goes_on_at, halted_same, idle_or_many, in_turn_from, in_turn_same, may_same, turn_does, turn_does_stops, turn_goes_on}
use Rattle.server_acceptor.proofs.TurnTakes.{due_at, first_failed, first_many, first_refused, forced_from, forces_at, stop_kept, stopped_from, takes_same, turn_takes}
use Rattle.server_acceptor.proofs.acceptor.Acceptor.turn.Goals as goal

pub make_turn-step-requires-clause-as_many : goal.make_turn-step-requires-clause-as_many
make_turn-step-requires-clause-as_many g c = c.requires.as_many ∙ sym (obeys_proceeds g.Li.Listener.given g.Li.Listener.left g.Li.Listener.rest g.L.Link.identity g.Li.Listener.ended g.Li.Listener.faults g.Do.Done.taken g.Do.Done.count g.Do.Done.served c.args.listeners.now.items _ c.take_commands-idle.new.self c.args.done.now c.take_commands-idle.new.done c.take_commands-idle.ensures.takes.commands c.now-now.result (g.met.Do.Done.small c.args.done.now) c.take_commands-idle.ensures.takes.obeys).does.acts.listeners

pub make_turn-step-requires-clause-given : goal.make_turn-step-requires-clause-given
make_turn-step-requires-clause-given g c = given_kept g.Li.Listener.given g.Li.Listener.waits g.Li.Listener.skips c.args.listeners.now.items c.args.self.now c.take_commands-idle.new.self (ap (λ v. v.items) c.take_commands-idle.ensures.takes.obeys.beside.places) c.requires.given

pub make_turn-step-requires-clause-none_failed : goal.make_turn-step-requires-clause-none_failed
make_turn-step-requires-clause-none_failed g c = first_failed g.Do.Done.taken g.Do.Done.count g.Do.Done.served g.Co.Commands.given g.Co.Commands.stops g.Co.Commands.idles g.Co.Commands.ended _ c.take_commands-idle.new.self c.args.done.now c.take_commands-idle.new.done c.args.commands.now c.take_commands-idle.new.commands c.now-now.result c.take_commands-idle.result c.take_commands-idle.ensures.takes c.clear.ensures.items

pub make_turn-step-requires-clause-none_refused : goal.make_turn-step-requires-clause-none_refused
make_turn-step-requires-clause-none_refused g c = first_refused g.Do.Done.taken g.Do.Done.count g.Do.Done.served g.Co.Commands.given g.Co.Commands.stops g.Co.Commands.idles g.Co.Commands.ended _ c.take_commands-idle.new.self c.args.done.now c.take_commands-idle.new.done c.args.commands.now c.take_commands-idle.new.commands c.now-now.result c.take_commands-idle.result c.take_commands-idle.ensures.takes c.clear.ensures.items

pub returns-in-WorkerEnded-clause-does : goal.returns-in-WorkerEnded-clause-does
returns-in-WorkerEnded-clause-does g c = turn_does g.Li.Listener.given g.Li.Listener.left g.Li.Listener.rest g.L.Link.identity g.Li.Listener.ended g.Li.Listener.faults g.Do.Done.taken g.Do.Done.count g.Do.Done.served c.args.listeners.now.items c.make_turn-step.new.listeners.items c.args.done.now c.make_turn-step.new.done c.args.self.now _ c.make_turn-step.new.self _ (record { core = refl; parcels = refl; notes = refl; ready = refl; waiting = refl; serial = refl; places = refl; failed = refl; limit = refl; retry_limit = refl; lacks_room = refl }) c.clear.ensures.items (record { core = refl; parcels = refl; notes = refl; ready = refl; waiting = refl; serial = refl; places = refl; failed = refl; limit = refl; retry_limit = refl; lacks_room = refl }) refl (proceeds_trans g.Li.Listener.given g.Li.Listener.left g.Li.Listener.rest g.L.Link.identity g.Li.Listener.ended g.Li.Listener.faults g.Do.Done.taken g.Do.Done.count g.Do.Done.served c.args.listeners.now.items c.args.listeners.now.items c.make_turn-step.new.listeners.items _ c.take_commands-idle.new.self c.make_turn-step.new.self c.args.done.now c.take_commands-idle.new.done c.make_turn-step.new.done (obeys_proceeds g.Li.Listener.given g.Li.Listener.left g.Li.Listener.rest g.L.Link.identity g.Li.Listener.ended g.Li.Listener.faults g.Do.Done.taken g.Do.Done.count g.Do.Done.served c.args.listeners.now.items _ c.take_commands-idle.new.self c.args.done.now c.take_commands-idle.new.done c.take_commands-idle.ensures.takes.commands c.now-now.result (g.met.Do.Done.small c.args.done.now) c.take_commands-idle.ensures.takes.obeys) c.make_turn-step.ensures.proceeds)

pub returns-in-WorkerEnded-clause-takes : goal.returns-in-WorkerEnded-clause-takes
returns-in-WorkerEnded-clause-takes g c = turn_takes g.Do.Done.taken g.Do.Done.count g.Do.Done.served g.Co.Commands.given g.Co.Commands.stops g.Co.Commands.idles g.Co.Commands.ended _ c.take_commands-idle.new.self c.args.done.now c.take_commands-idle.new.done c.args.commands.now c.take_commands-idle.new.commands c.now-now.result c.take_commands-idle.result c.take_commands-idle.ensures.takes c.clear.ensures.items g.Li.Listener.given g.Li.Listener.left g.Li.Listener.rest g.L.Link.identity g.Li.Listener.ended g.Li.Listener.faults c.args.listeners.now.items c.make_turn-step.new.listeners.items c.make_turn-step.new.self c.make_turn-step.new.done c.make_turn-step.ensures.proceeds c.make_turn-step.ensures.leaves (λ busy. ap (λ v. v.items) (c.make_turn-step.ensures.unasked busy))

pub returns-in-WorkerEnded-clause-stop : goal.returns-in-WorkerEnded-clause-stop
returns-in-WorkerEnded-clause-stop g c = stop_kept c.args.self.now.stop c.take_commands-idle.new.self.stop c.make_turn-step.new.self.stop c.now-now.result _ c.take_commands-idle.ensures.takes.obeys.stop c.make_turn-step.ensures.leaves.stop c.now-now.ensures.answer

pub returns-in-WorkerEnded-clause-forces : goal.returns-in-WorkerEnded-clause-forces
returns-in-WorkerEnded-clause-forces g c w is = inl (forced_from c.args.self.now c.take_commands-idle.new.self c.make_turn-step.new.self w c.take_commands-idle.ensures.takes.obeys.beside.parcels c.make_turn-step.ensures.leaves is)

pub returns-in-WorkerEnded-clause-closes : goal.returns-in-WorkerEnded-clause-closes
returns-in-WorkerEnded-clause-closes g c w is = inl (stopped_from c.args.self.now c.take_commands-idle.new.self c.make_turn-step.new.self w c.take_commands-idle.ensures.takes.obeys.beside.parcels c.make_turn-step.ensures.leaves is)

pub returns-in-WorkerEnded-clause-short : goal.returns-in-WorkerEnded-clause-short
returns-in-WorkerEnded-clause-short g c lacks = c.make_turn-step.ensures.short (c.take_commands-idle.ensures.takes.obeys.beside.lacks_room ∙ lacks)

pub returns-in-WorkerEnded-clause-due : goal.returns-in-WorkerEnded-clause-due
returns-in-WorkerEnded-clause-due g c none = absurd (none c.in-WorkerEnded.w refl)

pub returns-in-WorkerEnded-clause-in_turn : goal.returns-in-WorkerEnded-clause-in_turn
returns-in-WorkerEnded-clause-in_turn g c = in_turn_same _ _ _ _ _ c.args.self.now c.args.self.now c.make_turn-step.new.self _ c.now-now.result _ c.now-now.ensures.answer refl refl refl refl (in_turn_from g.Li.Listener.given g.Li.Listener.waits g.Li.Listener.skips c.args.listeners.now.items c.make_turn-step.new.listeners.items c.args.self.now c.take_commands-idle.new.self c.make_turn-step.new.self c.now-now.result c.take_commands-idle.ensures.takes.obeys.beside.first (λ t. ap (λ v. slice_index_or v.items t None) c.take_commands-idle.ensures.takes.obeys.beside.failed) c.make_turn-step.ensures.in_turn)

pub returns-in-WorkerEnded-clause-first : goal.returns-in-WorkerEnded-clause-first
returns-in-WorkerEnded-clause-first g c = ap₂ (λ f n. (f + 1) % n) (c.make_turn-step.ensures.first ∙ c.take_commands-idle.ensures.takes.obeys.beside.first) (omega (arith, c.len.ensures, c.make_turn-step.new.self.listeners.0, (proceeds_trans g.Li.Listener.given g.Li.Listener.left g.Li.Listener.rest g.L.Link.identity g.Li.Listener.ended g.Li.Listener.faults g.Do.Done.taken g.Do.Done.count g.Do.Done.served c.args.listeners.now.items c.args.listeners.now.items c.make_turn-step.new.listeners.items _ c.take_commands-idle.new.self c.make_turn-step.new.self c.args.done.now c.take_commands-idle.new.done c.make_turn-step.new.done (obeys_proceeds g.Li.Listener.given g.Li.Listener.left g.Li.Listener.rest g.L.Link.identity g.Li.Listener.ended g.Li.Listener.faults g.Do.Done.taken g.Do.Done.count g.Do.Done.served c.args.listeners.now.items _ c.take_commands-idle.new.self c.args.done.now c.take_commands-idle.new.done c.take_commands-idle.ensures.takes.commands c.now-now.result (g.met.Do.Done.small c.args.done.now) c.take_commands-idle.ensures.takes.obeys) c.make_turn-step.ensures.proceeds).does.acts.listeners))

pub returns-in-WorkerEnded-clause-worker_ended : goal.returns-in-WorkerEnded-clause-worker_ended
returns-in-WorkerEnded-clause-worker_ended g c w is =
    let fault = c.make_turn-step.ensures.ended c.in-WorkerEnded.w c.in-WorkerEnded.is in
    ended_same _ _ c.in-WorkerEnded.w w is (fault.0, ends_same _ _ _ _ c.in-WorkerEnded.w (sym c.take_commands-idle.ensures.takes.obeys.beside.notes) refl fault.1)

pub returns-clause-given : goal.returns-clause-given
returns-clause-given g c = given_kept g.Li.Listener.given g.Li.Listener.waits g.Li.Listener.skips c.make_turn-step.new.listeners.items c.make_turn-step.new.self c.come_to.new.self (ap (λ v. v.items) c.come_to.ensures.only.places) c.make_turn-step.ensures.given

pub returns-clause-spare : goal.returns-clause-spare
returns-clause-spare g c = subst (λ k. sum k.out + held k.waiting ≤ g.Do.Done.spare c.make_turn-step.new.done) (sym c.come_to.ensures.only.core) c.make_turn-step.ensures.spare

pub returns-clause-does : goal.returns-clause-does
returns-clause-does g c =
    turn_does_stops g.Li.Listener.given g.Li.Listener.left g.Li.Listener.rest g.L.Link.identity g.Li.Listener.ended g.Li.Listener.faults g.Do.Done.taken g.Do.Done.count g.Do.Done.served c.args.listeners.now.items c.make_turn-step.new.listeners.items c.args.done.now c.make_turn-step.new.done c.args.self.now _ c.come_to.new.self c.come_to.ensures.only (c.come_to.ensures.proceeds c.make_turn-step.new.listeners.items c.make_turn-step.new.done)
    (turn_does g.Li.Listener.given g.Li.Listener.left g.Li.Listener.rest g.L.Link.identity g.Li.Listener.ended g.Li.Listener.faults g.Do.Done.taken g.Do.Done.count g.Do.Done.served c.args.listeners.now.items c.make_turn-step.new.listeners.items c.args.done.now c.make_turn-step.new.done c.args.self.now _ c.make_turn-step.new.self _ (record { core = refl; parcels = refl; notes = refl; ready = refl; waiting = refl; serial = refl; places = refl; failed = refl; limit = refl; retry_limit = refl; lacks_room = refl }) c.clear.ensures.items (record { core = refl; parcels = refl; notes = refl; ready = refl; waiting = refl; serial = refl; places = refl; failed = refl; limit = refl; retry_limit = refl; lacks_room = refl }) refl (proceeds_trans g.Li.Listener.given g.Li.Listener.left g.Li.Listener.rest g.L.Link.identity g.Li.Listener.ended g.Li.Listener.faults g.Do.Done.taken g.Do.Done.count g.Do.Done.served c.args.listeners.now.items c.args.listeners.now.items c.make_turn-step.new.listeners.items _ c.take_commands-idle.new.self c.make_turn-step.new.self c.args.done.now c.take_commands-idle.new.done c.make_turn-step.new.done (obeys_proceeds g.Li.Listener.given g.Li.Listener.left g.Li.Listener.rest g.L.Link.identity g.Li.Listener.ended g.Li.Listener.faults g.Do.Done.taken g.Do.Done.count g.Do.Done.served c.args.listeners.now.items _ c.take_commands-idle.new.self c.args.done.now c.take_commands-idle.new.done c.take_commands-idle.ensures.takes.commands c.now-now.result (g.met.Do.Done.small c.args.done.now) c.take_commands-idle.ensures.takes.obeys) c.make_turn-step.ensures.proceeds))

pub returns-clause-once : goal.returns-clause-once
returns-clause-once g c = subst (λ v. OnceEach v.items) (sym c.come_to.ensures.only.events) c.make_turn-step.ensures.once

pub returns-clause-takes : goal.returns-clause-takes
returns-clause-takes g c = takes_same g.Co.Commands.given g.Co.Commands.stops g.Co.Commands.idles g.Co.Commands.ended c.args.self.now.core c.args.commands.now c.take_commands-idle.new.commands c.make_turn-step.new.self.events.items c.come_to.new.self.events.items (ap (λ v. v.items) c.come_to.ensures.only.events) (turn_takes g.Do.Done.taken g.Do.Done.count g.Do.Done.served g.Co.Commands.given g.Co.Commands.stops g.Co.Commands.idles g.Co.Commands.ended _ c.take_commands-idle.new.self c.args.done.now c.take_commands-idle.new.done c.args.commands.now c.take_commands-idle.new.commands c.now-now.result c.take_commands-idle.result c.take_commands-idle.ensures.takes c.clear.ensures.items g.Li.Listener.given g.Li.Listener.left g.Li.Listener.rest g.L.Link.identity g.Li.Listener.ended g.Li.Listener.faults c.args.listeners.now.items c.make_turn-step.new.listeners.items c.make_turn-step.new.self c.make_turn-step.new.done c.make_turn-step.ensures.proceeds c.make_turn-step.ensures.leaves (λ busy. ap (λ v. v.items) (c.make_turn-step.ensures.unasked busy)))

pub returns-clause-stop : goal.returns-clause-stop
returns-clause-stop g c = stop_kept c.args.self.now.stop c.take_commands-idle.new.self.stop c.come_to.new.self.stop c.now-now.result _ c.take_commands-idle.ensures.takes.obeys.stop (c.come_to.ensures.only.stop ∙ c.make_turn-step.ensures.leaves.stop) c.now-now.ensures.answer

pub returns-clause-forces : goal.returns-clause-forces
returns-clause-forces g c w is = elim (c.come_to.ensures.forces w is) [
  | inl before ↦ inl (forced_from c.args.self.now c.take_commands-idle.new.self c.make_turn-step.new.self w c.take_commands-idle.ensures.takes.obeys.beside.parcels c.make_turn-step.ensures.leaves before)
  | inr due ↦ inr (due_at c.come_to.new.self c.now-now.result _ c.now-now.ensures.answer due)
]

pub returns-clause-closes : goal.returns-clause-closes
returns-clause-closes g c w is = elim (c.come_to.ensures.closes w is) [
  | inl before ↦ inl (stopped_from c.args.self.now c.take_commands-idle.new.self c.make_turn-step.new.self w c.take_commands-idle.ensures.takes.obeys.beside.parcels c.make_turn-step.ensures.leaves before)
  | inr closing ↦ inr closing
]

pub returns-clause-short : goal.returns-clause-short
returns-clause-short g c lacks = c.make_turn-step.ensures.short (c.take_commands-idle.ensures.takes.obeys.beside.lacks_room ∙ lacks)

pub returns-clause-due : goal.returns-clause-due
returns-clause-due g c none = forces_at c.come_to.new.self c.now-now.result _ c.now-now.ensures.answer c.come_to.ensures.due

pub returns-clause-in_turn : goal.returns-clause-in_turn
returns-clause-in_turn g c =
    in_turn_same _ _ _ _ _ c.args.self.now c.args.self.now c.make_turn-step.new.self c.come_to.new.self c.now-now.result _ c.now-now.ensures.answer refl refl c.come_to.ensures.only.core
    (ap (λ v. v.items) c.come_to.ensures.only.failed) (in_turn_from g.Li.Listener.given g.Li.Listener.waits g.Li.Listener.skips c.args.listeners.now.items c.make_turn-step.new.listeners.items c.args.self.now c.take_commands-idle.new.self c.make_turn-step.new.self c.now-now.result c.take_commands-idle.ensures.takes.obeys.beside.first (λ t. ap (λ v. slice_index_or v.items t None) c.take_commands-idle.ensures.takes.obeys.beside.failed) c.make_turn-step.ensures.in_turn)

pub returns-clause-first : goal.returns-clause-first
returns-clause-first g c =
    c.come_to.ensures.only.first ∙ ap₂ (λ f n. (f + 1) % n) (c.make_turn-step.ensures.first ∙ c.take_commands-idle.ensures.takes.obeys.beside.first)
    (omega (arith, c.len.ensures, c.make_turn-step.new.self.listeners.0, (proceeds_trans g.Li.Listener.given g.Li.Listener.left g.Li.Listener.rest g.L.Link.identity g.Li.Listener.ended g.Li.Listener.faults g.Do.Done.taken g.Do.Done.count g.Do.Done.served c.args.listeners.now.items c.args.listeners.now.items c.make_turn-step.new.listeners.items _ c.take_commands-idle.new.self c.make_turn-step.new.self c.args.done.now c.take_commands-idle.new.done c.make_turn-step.new.done (obeys_proceeds g.Li.Listener.given g.Li.Listener.left g.Li.Listener.rest g.L.Link.identity g.Li.Listener.ended g.Li.Listener.faults g.Do.Done.taken g.Do.Done.count g.Do.Done.served c.args.listeners.now.items _ c.take_commands-idle.new.self c.args.done.now c.take_commands-idle.new.done c.take_commands-idle.ensures.takes.commands c.now-now.result (g.met.Do.Done.small c.args.done.now) c.take_commands-idle.ensures.takes.obeys) c.make_turn-step.ensures.proceeds).does.acts.listeners))

pub returns-clause-going : goal.returns-clause-going
returns-clause-going g c is =
    let o = c.come_to.ensures.only in
    let seen : SeenSame c.make_turn-step.new.self c.come_to.new.self = record { core = o.core; events = o.events; notes = o.notes; ready = o.ready; waiting = o.waiting; failed = o.failed; lacks_room = o.lacks_room } in
    let many = first_many g.Do.Done.taken g.Do.Done.count g.Do.Done.served g.Co.Commands.given g.Co.Commands.stops g.Co.Commands.idles g.Co.Commands.ended _ c.take_commands-idle.new.self c.args.done.now c.take_commands-idle.new.done c.args.commands.now c.take_commands-idle.new.commands c.now-now.result c.take_commands-idle.result c.take_commands-idle.ensures.takes c.clear.ensures.items c.come_to.new.self.events.items (ap (λ v. count_by is_command v.items) o.events ∙ c.make_turn-step.ensures.leaves.commands) in
    goes_on_at _ _ _ g.Co.Commands.idles _ _ c.args.commands.now c.take_commands-idle.new.commands c.come_to.new.self c.now-now.result _ c.now-now.ensures.answer
    (turn_goes_on g.Li.Listener.given g.Li.Listener.waits g.Li.Listener.skips g.Co.Commands.idles c.args.listeners.now.items c.make_turn-step.new.listeners.items c.args.commands.now c.take_commands-idle.new.commands c.come_to.new.self c.now-now.result c.make_turn-step.result
    c.make_turn-step.ensures.on
    (λ at. let settled = c.make_turn-step.ensures.settled at in
    (may_same c.make_turn-step.new.self c.come_to.new.self seen settled.0, asked_same c.make_turn-step.new.self c.come_to.new.self seen _ _ _ _ _ _ c.take_commands-idle.result settled.1 (few_idle c.take_commands-idle.result _ many)))
    (λ at. halted_same c.make_turn-step.new.self c.come_to.new.self seen (c.make_turn-step.ensures.halted at))
    (λ w at. absurd (c.in_default.not-WorkerEnded w at))
    (record { commands = idle_or_many _ c.take_commands-idle.result _ c.take_commands-idle.ensures.takes.none_left many; stops = c.come_to.ensures.going is; stop = c.come_to.ensures.stop is }))

pub invariant_of-self-2 : goal.invariant_of-self-2
invariant_of-self-2 g c =
    let a = c.make_turn-step.new.self in
    record {
      room = a.room;
      workers = a.workers;
      as_many_forced = a.as_many_forced;
      kept = a.kept;
      listeners = a.listeners;
      most = a.most;
      few = a.few;
      within = search rules;
      as_many_events = a.as_many_events;
      waits = a.waits;
      counted = a.counted;
      placed = a.placed;
      small = a.small;
      out_counted = a.out_counted;
      fits = a.fits;
      early = a.early;
      agrees = a.agrees;
      stopped_sent = a.stopped_sent;
      forced_sent = a.forced_sent;
      patient = a.patient;
      rule = a.rule;
      some_limit = a.some_limit;
    }
