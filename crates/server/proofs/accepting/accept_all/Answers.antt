use Rattle.std.proofs.Common.{◌∙◌, ◌<◌, ◌≤◌, length, true≢false, vec_len, refl, ap, rules, subst, sym}
use Rattle.server.specs.Accepting.{ends_alone}
use Rattle.server.specs.Replacing.{Crew, HasFaulted, Restarts}
use Rattle.server.specs.Retiring.{AreRetired}
use Rattle.server_acceptor.specs.Acceptors.{core_of}
use Rattle.server_run.specs.Serving.{MayFault}
use Rattle.server.proofs.CrewSteps.{crew_turn, even_after, faulted_turn, restarts_none, restarts_same, restarts_trans}
use Rattle.server.proofs.DoneSteps.{closes_leaves, closes_on, stopped_by_one, unstopped_before}
use Rattle.server.proofs.RetireSteps.{all_retired_now, first_retired, retired_on}
use Rattle.server.proofs.HearSteps.{hears_leaves, hears_more, hears_none}
use Rattle.server.proofs.TurnSteps.{accepts_as, accepts_more, accepts_none, can_accept_leaves, can_accept_on, found_alone, found_ends}
use Rattle.server.proofs.accepting.accept_all.Goals as goal

pub loop-init : goal.loop-init
loop-init g c = (
  accepts_none g.Li.Listener.given g.Li.Listener.left g.Li.Listener.rest g.Li.Link.Link.identity g.Li.Listener.ended g.Li.Listener.faults g.Do.Done.taken g.Do.Done.count g.Do.Done.served _ c.args.acceptor.now c.args.done.now (g.met.Do.Done.small c.args.done.now),
  c.requires.can,
  restarts_none _ _,
  hears_none g.Co.Commands.given g.Co.Commands.stops g.Co.Commands.ended _ c.args.acceptor.now _ c.requires.fresh,
  c.requires.crew,
  refl,
  λ w is. absurd (c.requires.fresh.none_sent w is),
  λ calm. first_retired (g.F.ServerServiceFactory.may_init c.args.factory.now) _ c.args.running.now.items _ c.requires.first,
)

pub loop-preserved-then-is_done : goal.loop-preserved-then-is_done
loop-preserved-then-is_done g c = (
  accepts_more g.Li.Listener.given g.Li.Listener.left g.Li.Listener.rest g.Li.Link.Link.identity g.Li.Listener.ended g.Li.Listener.faults g.Do.Done.taken g.Do.Done.count g.Do.Done.served _ _ _ c.args.acceptor.now c.loop.acceptor c.turn-turned.new.self _ _ _ _ _ c.loop.invariant.0 c.turn-turned.ensures.does.acts,
  can_accept_on g.Li.Listener.given g.Li.Listener.left g.Li.Listener.rest g.Li.Link.Link.identity g.Li.Listener.ended g.Li.Listener.faults g.Do.Done.taken g.Do.Done.count g.Do.Done.served _ _ c.loop.acceptor c.turn-turned.new.self _ _ _ _ _ _ c.loop.invariant.1 c.turn-turned.ensures.does.acts c.turn-turned.ensures.given c.turn-turned.ensures.spare,
  restarts_same (MayFault (g.F.ServerServiceFactory.may_ready c.args.factory.now) (g.F.ServerServiceFactory.may_init c.args.factory.now) _) _ _ _ c.loop.invariant.2 c.wake.ensures,
  hears_more g.Co.Commands.given g.Co.Commands.stops g.Co.Commands.idles g.Co.Commands.ended _ _ _ c.loop.acceptor c.turn-turned.new.self _ _ _ c.loop.invariant.3 c.turn-turned.ensures.takes c.turn-turned.ensures.does.acts.logged.core c.turn-turned.ensures.onward c.turn-turned.ensures.timeout c.turn-turned.ensures.stop c.turn-turned.ensures.forces,
  crew_turn g.Li.Listener.given g.Li.Listener.left g.Li.Listener.rest g.Li.Link.Link.identity g.Li.Listener.ended g.Li.Listener.faults g.Do.Done.taken g.Do.Done.count g.Do.Done.served g.F.ServerServiceFactory.may_serve g.F.ServerServiceFactory.may_leave g.F.ServerServiceFactory.may_ready g.F.ServerServiceFactory.may_init g.F.ServerServiceFactory.may_make c.args.factory.now _ _ _ c.loop.acceptor c.turn-turned.new.self _ _ _ _ c.turn-turned.ensures.does (even_after g.Li.Listener.given g.Li.Listener.left g.Li.Listener.rest g.Li.Link.Link.identity g.Li.Listener.ended g.Li.Listener.faults g.Do.Done.taken g.Do.Done.count g.Do.Done.served _ _ c.args.acceptor.now c.turn-turned.new.self _ _ c.requires.carries (accepts_more g.Li.Listener.given g.Li.Listener.left g.Li.Listener.rest g.Li.Link.Link.identity g.Li.Listener.ended g.Li.Listener.faults g.Do.Done.taken g.Do.Done.count g.Do.Done.served _ _ _ c.args.acceptor.now c.loop.acceptor c.turn-turned.new.self _ _ _ _ _ c.loop.invariant.0 c.turn-turned.ensures.does.acts)) c.loop.invariant.4,
  c.loop.invariant.5,
  closes_on g.Li.Listener.given g.Li.Listener.left g.Li.Listener.rest g.Li.Link.Link.identity g.Li.Listener.ended g.Li.Listener.faults g.Do.Done.taken g.Do.Done.count g.Do.Done.served _ _ c.loop.acceptor c.turn-turned.new.self _ _ _ _ c.turn-turned.ensures.does.acts c.loop.invariant.1.as_many (λ lacks. ap (λ v. v.items) (c.turn-turned.ensures.short lacks)) c.turn-turned.ensures.closes c.loop.invariant.6,
  λ calm. retired_on (g.F.ServerServiceFactory.may_init c.args.factory.now) (vec_len c.args.listeners.now) c.loop.running.items (g.Sp.Spawner.starts c.args.spawner.now, g.Sp.Spawner.refusals c.args.spawner.now) (g.Sp.Spawner.starts c.loop.spawner, g.Sp.Spawner.refusals c.loop.spawner) _ (c.loop.invariant.7 (unstopped_before (core_of c.loop.acceptor).stopping (core_of c.turn-turned.new.self).stopping c.turn-turned.ensures.does.acts.stops calm)) c.wake.ensures,
)

pub loop-preserved-in-Going : goal.loop-preserved-in-Going
loop-preserved-in-Going g c = (
  accepts_more g.Li.Listener.given g.Li.Listener.left g.Li.Listener.rest g.Li.Link.Link.identity g.Li.Listener.ended g.Li.Listener.faults g.Do.Done.taken g.Do.Done.count g.Do.Done.served _ _ _ c.args.acceptor.now c.loop.acceptor c.turn-turned.new.self _ _ _ _ _ c.loop.invariant.0 c.turn-turned.ensures.does.acts,
  can_accept_on g.Li.Listener.given g.Li.Listener.left g.Li.Listener.rest g.Li.Link.Link.identity g.Li.Listener.ended g.Li.Listener.faults g.Do.Done.taken g.Do.Done.count g.Do.Done.served _ _ c.loop.acceptor c.turn-turned.new.self _ _ _ _ _ _ c.loop.invariant.1 c.turn-turned.ensures.does.acts c.turn-turned.ensures.given c.turn-turned.ensures.spare,
  restarts_same (MayFault (g.F.ServerServiceFactory.may_ready c.args.factory.now) (g.F.ServerServiceFactory.may_init c.args.factory.now) _) _ _ _ c.loop.invariant.2 (c.rest_for.ensures ∙ c.wake.ensures),
  hears_more g.Co.Commands.given g.Co.Commands.stops g.Co.Commands.idles g.Co.Commands.ended _ _ _ c.loop.acceptor c.turn-turned.new.self _ _ _ c.loop.invariant.3 c.turn-turned.ensures.takes c.turn-turned.ensures.does.acts.logged.core c.turn-turned.ensures.onward c.turn-turned.ensures.timeout c.turn-turned.ensures.stop c.turn-turned.ensures.forces,
  crew_turn g.Li.Listener.given g.Li.Listener.left g.Li.Listener.rest g.Li.Link.Link.identity g.Li.Listener.ended g.Li.Listener.faults g.Do.Done.taken g.Do.Done.count g.Do.Done.served g.F.ServerServiceFactory.may_serve g.F.ServerServiceFactory.may_leave g.F.ServerServiceFactory.may_ready g.F.ServerServiceFactory.may_init g.F.ServerServiceFactory.may_make c.args.factory.now _ _ _ c.loop.acceptor c.turn-turned.new.self _ _ _ _ c.turn-turned.ensures.does (even_after g.Li.Listener.given g.Li.Listener.left g.Li.Listener.rest g.Li.Link.Link.identity g.Li.Listener.ended g.Li.Listener.faults g.Do.Done.taken g.Do.Done.count g.Do.Done.served _ _ c.args.acceptor.now c.turn-turned.new.self _ _ c.requires.carries (accepts_more g.Li.Listener.given g.Li.Listener.left g.Li.Listener.rest g.Li.Link.Link.identity g.Li.Listener.ended g.Li.Listener.faults g.Do.Done.taken g.Do.Done.count g.Do.Done.served _ _ _ c.args.acceptor.now c.loop.acceptor c.turn-turned.new.self _ _ _ _ _ c.loop.invariant.0 c.turn-turned.ensures.does.acts)) c.loop.invariant.4,
  c.loop.invariant.5,
  closes_on g.Li.Listener.given g.Li.Listener.left g.Li.Listener.rest g.Li.Link.Link.identity g.Li.Listener.ended g.Li.Listener.faults g.Do.Done.taken g.Do.Done.count g.Do.Done.served _ _ c.loop.acceptor c.turn-turned.new.self _ _ _ _ c.turn-turned.ensures.does.acts c.loop.invariant.1.as_many (λ lacks. ap (λ v. v.items) (c.turn-turned.ensures.short lacks)) c.turn-turned.ensures.closes c.loop.invariant.6,
  λ calm. retired_on (g.F.ServerServiceFactory.may_init c.args.factory.now) (vec_len c.args.listeners.now) c.loop.running.items (g.Sp.Spawner.starts c.args.spawner.now, g.Sp.Spawner.refusals c.args.spawner.now) (g.Sp.Spawner.starts c.loop.spawner, g.Sp.Spawner.refusals c.loop.spawner) _ (c.loop.invariant.7 (unstopped_before (core_of c.loop.acceptor).stopping (core_of c.turn-turned.new.self).stopping c.turn-turned.ensures.does.acts.stops calm)) (c.rest_for.ensures ∙ c.wake.ensures),
)

pub returns-then-not-all_ready-clause-accepts : goal.returns-then-not-all_ready-clause-accepts
returns-then-not-all_ready-clause-accepts g c =
    accepts_more g.Li.Listener.given g.Li.Listener.left g.Li.Listener.rest g.Li.Link.Link.identity g.Li.Listener.ended g.Li.Listener.faults g.Do.Done.taken g.Do.Done.count g.Do.Done.served _ _ _ c.args.acceptor.now c.loop.acceptor c.turn-turned.new.self _ _ _ _ _ c.loop.invariant.0 c.turn-turned.ensures.does.acts

pub returns-then-not-all_ready-clause-hears : goal.returns-then-not-all_ready-clause-hears
returns-then-not-all_ready-clause-hears g c =
    hears_more g.Co.Commands.given g.Co.Commands.stops g.Co.Commands.idles g.Co.Commands.ended _ _ _ c.loop.acceptor c.turn-turned.new.self _ _ _ c.loop.invariant.3 c.turn-turned.ensures.takes c.turn-turned.ensures.does.acts.logged.core c.turn-turned.ensures.onward c.turn-turned.ensures.timeout c.turn-turned.ensures.stop c.turn-turned.ensures.forces

pub returns-then-not-all_ready-clause-crew : goal.returns-then-not-all_ready-clause-crew
returns-then-not-all_ready-clause-crew g c =
    crew_turn g.Li.Listener.given g.Li.Listener.left g.Li.Listener.rest g.Li.Link.Link.identity g.Li.Listener.ended g.Li.Listener.faults g.Do.Done.taken g.Do.Done.count g.Do.Done.served g.F.ServerServiceFactory.may_serve g.F.ServerServiceFactory.may_leave g.F.ServerServiceFactory.may_ready g.F.ServerServiceFactory.may_init g.F.ServerServiceFactory.may_make c.args.factory.now _ _ _ c.loop.acceptor c.turn-turned.new.self _ _ _ _ c.turn-turned.ensures.does (even_after g.Li.Listener.given g.Li.Listener.left g.Li.Listener.rest g.Li.Link.Link.identity g.Li.Listener.ended g.Li.Listener.faults g.Do.Done.taken g.Do.Done.count g.Do.Done.served _ _ c.args.acceptor.now c.turn-turned.new.self _ _ c.requires.carries (accepts_more g.Li.Listener.given g.Li.Listener.left g.Li.Listener.rest g.Li.Link.Link.identity g.Li.Listener.ended g.Li.Listener.faults g.Do.Done.taken g.Do.Done.count g.Do.Done.served _ _ _ c.args.acceptor.now c.loop.acceptor c.turn-turned.new.self _ _ _ _ _ c.loop.invariant.0 c.turn-turned.ensures.does.acts)) c.loop.invariant.4

pub returns-then-not-all_ready-clause-counts : goal.returns-then-not-all_ready-clause-counts
returns-then-not-all_ready-clause-counts g c =
    restarts_same (MayFault (g.F.ServerServiceFactory.may_ready c.args.factory.now) (g.F.ServerServiceFactory.may_init c.args.factory.now) _) _ _ _ c.loop.invariant.2 (c.wake.ensures)

pub returns-in-Finished-clause-accepts : goal.returns-in-Finished-clause-accepts
returns-in-Finished-clause-accepts g c =
    accepts_as g.Li.Listener.given g.Li.Listener.left g.Li.Listener.rest g.Li.Link.Link.identity g.Li.Listener.ended g.Li.Listener.faults g.Do.Done.taken g.Do.Done.count g.Do.Done.served _ _ _ _ _ _ _ _ (found_alone c.turn-turned.new.self c.in-Finished.end c.end_of.result _ (c.turn-turned.ensures.finished c.in-Finished.end c.in-Finished.is) c.end_of.ensures.some) (accepts_more g.Li.Listener.given g.Li.Listener.left g.Li.Listener.rest g.Li.Link.Link.identity g.Li.Listener.ended g.Li.Listener.faults g.Do.Done.taken g.Do.Done.count g.Do.Done.served _ _ _ c.args.acceptor.now c.loop.acceptor c.turn-turned.new.self _ _ _ _ _ c.loop.invariant.0 c.turn-turned.ensures.does.acts)

pub returns-in-Finished-clause-hears : goal.returns-in-Finished-clause-hears
returns-in-Finished-clause-hears g c =
    hears_more g.Co.Commands.given g.Co.Commands.stops g.Co.Commands.idles g.Co.Commands.ended _ _ _ c.loop.acceptor c.turn-turned.new.self _ _ _ c.loop.invariant.3 c.turn-turned.ensures.takes c.turn-turned.ensures.does.acts.logged.core c.turn-turned.ensures.onward c.turn-turned.ensures.timeout c.turn-turned.ensures.stop c.turn-turned.ensures.forces

pub returns-in-Finished-clause-crew : goal.returns-in-Finished-clause-crew
returns-in-Finished-clause-crew g c =
    crew_turn g.Li.Listener.given g.Li.Listener.left g.Li.Listener.rest g.Li.Link.Link.identity g.Li.Listener.ended g.Li.Listener.faults g.Do.Done.taken g.Do.Done.count g.Do.Done.served g.F.ServerServiceFactory.may_serve g.F.ServerServiceFactory.may_leave g.F.ServerServiceFactory.may_ready g.F.ServerServiceFactory.may_init g.F.ServerServiceFactory.may_make c.args.factory.now _ _ _ c.loop.acceptor c.turn-turned.new.self _ _ _ _ c.turn-turned.ensures.does (even_after g.Li.Listener.given g.Li.Listener.left g.Li.Listener.rest g.Li.Link.Link.identity g.Li.Listener.ended g.Li.Listener.faults g.Do.Done.taken g.Do.Done.count g.Do.Done.served _ _ c.args.acceptor.now c.turn-turned.new.self _ _ c.requires.carries (accepts_more g.Li.Listener.given g.Li.Listener.left g.Li.Listener.rest g.Li.Link.Link.identity g.Li.Listener.ended g.Li.Listener.faults g.Do.Done.taken g.Do.Done.count g.Do.Done.served _ _ _ c.args.acceptor.now c.loop.acceptor c.turn-turned.new.self _ _ _ _ _ c.loop.invariant.0 c.turn-turned.ensures.does.acts)) c.loop.invariant.4

pub returns-in-Finished-clause-counts : goal.returns-in-Finished-clause-counts
returns-in-Finished-clause-counts g c =
    restarts_same (MayFault (g.F.ServerServiceFactory.may_ready c.args.factory.now) (g.F.ServerServiceFactory.may_init c.args.factory.now) _) _ _ _ c.loop.invariant.2 (c.wake.ensures)

pub replace_one-requires-clause-number : goal.replace_one-requires-clause-number
replace_one-requires-clause-number g c κs within = (
  (c.turn-turned.ensures.worker_ended c.in-WorkerEnded.w c.in-WorkerEnded.is).0,
  subst (λ k. 0 < k) (sym c.len-count.ensures) c.requires.count.0,
  subst (λ k. k ≤ 64) (sym c.len-count.ensures) c.requires.count.1,
)

pub replace_one-requires-clause-crew : goal.replace_one-requires-clause-crew
replace_one-requires-clause-crew g c κs within =
    subst (λ k. Crew g.F.ServerServiceFactory.may_serve g.F.ServerServiceFactory.may_leave g.F.ServerServiceFactory.may_ready g.F.ServerServiceFactory.may_init g.F.ServerServiceFactory.may_make g.Li.Link.Link.identity c.args.factory.now k c.turn-turned.new.self c.loop.running.items) (sym c.len-count.ensures)
    (crew_turn g.Li.Listener.given g.Li.Listener.left g.Li.Listener.rest g.Li.Link.Link.identity g.Li.Listener.ended g.Li.Listener.faults g.Do.Done.taken g.Do.Done.count g.Do.Done.served g.F.ServerServiceFactory.may_serve g.F.ServerServiceFactory.may_leave g.F.ServerServiceFactory.may_ready g.F.ServerServiceFactory.may_init g.F.ServerServiceFactory.may_make c.args.factory.now _ _ _ c.loop.acceptor c.turn-turned.new.self _ _ _ _ c.turn-turned.ensures.does (even_after g.Li.Listener.given g.Li.Listener.left g.Li.Listener.rest g.Li.Link.Link.identity g.Li.Listener.ended g.Li.Listener.faults g.Do.Done.taken g.Do.Done.count g.Do.Done.served _ _ c.args.acceptor.now c.turn-turned.new.self _ _ c.requires.carries (accepts_more g.Li.Listener.given g.Li.Listener.left g.Li.Listener.rest g.Li.Link.Link.identity g.Li.Listener.ended g.Li.Listener.faults g.Do.Done.taken g.Do.Done.count g.Do.Done.served _ _ _ c.args.acceptor.now c.loop.acceptor c.turn-turned.new.self _ _ _ _ _ c.loop.invariant.0 c.turn-turned.ensures.does.acts)) c.loop.invariant.4)

pub replace_one-requires-clause-faulted : goal.replace_one-requires-clause-faulted
replace_one-requires-clause-faulted g c κs within =
    subst (λ k. HasFaulted g.F.ServerServiceFactory.may_serve g.F.ServerServiceFactory.may_leave g.F.ServerServiceFactory.may_ready g.F.ServerServiceFactory.may_init g.F.ServerServiceFactory.may_make g.Li.Link.Link.identity c.args.factory.now k c.turn-turned.new.self c.in-WorkerEnded.w c.loop.running.items) (sym c.len-count.ensures)
    (faulted_turn g.Li.Listener.given g.Li.Listener.left g.Li.Listener.rest g.Li.Link.Link.identity g.Li.Listener.ended g.Li.Listener.faults g.Do.Done.taken g.Do.Done.count g.Do.Done.served g.F.ServerServiceFactory.may_serve g.F.ServerServiceFactory.may_leave g.F.ServerServiceFactory.may_ready g.F.ServerServiceFactory.may_init g.F.ServerServiceFactory.may_make c.args.factory.now _ _ _ c.loop.acceptor c.turn-turned.new.self _ _ _ _ c.turn-turned.ensures.does (even_after g.Li.Listener.given g.Li.Listener.left g.Li.Listener.rest g.Li.Link.Link.identity g.Li.Listener.ended g.Li.Listener.faults g.Do.Done.taken g.Do.Done.count g.Do.Done.served _ _ c.args.acceptor.now c.turn-turned.new.self _ _ c.requires.carries (accepts_more g.Li.Listener.given g.Li.Listener.left g.Li.Listener.rest g.Li.Link.Link.identity g.Li.Listener.ended g.Li.Listener.faults g.Do.Done.taken g.Do.Done.count g.Do.Done.served _ _ _ c.args.acceptor.now c.loop.acceptor c.turn-turned.new.self _ _ _ _ _ c.loop.invariant.0 c.turn-turned.ensures.does.acts)) c.loop.invariant.4 c.in-WorkerEnded.w (c.turn-turned.ensures.worker_ended c.in-WorkerEnded.w c.in-WorkerEnded.is).1
    ((accepts_more g.Li.Listener.given g.Li.Listener.left g.Li.Listener.rest g.Li.Link.Link.identity g.Li.Listener.ended g.Li.Listener.faults g.Do.Done.taken g.Do.Done.count g.Do.Done.served _ _ _ c.args.acceptor.now c.loop.acceptor c.turn-turned.new.self _ _ _ _ _ c.loop.invariant.0 c.turn-turned.ensures.does.acts).acts.awaits.noted c.requires.noted) (search rules))

pub replace_one-requires-clause-even : goal.replace_one-requires-clause-even
replace_one-requires-clause-even g c κs within = even_after g.Li.Listener.given g.Li.Listener.left g.Li.Listener.rest g.Li.Link.Link.identity g.Li.Listener.ended g.Li.Listener.faults g.Do.Done.taken g.Do.Done.count g.Do.Done.served _ _ c.args.acceptor.now c.turn-turned.new.self _ _ c.requires.carries (accepts_more g.Li.Listener.given g.Li.Listener.left g.Li.Listener.rest g.Li.Link.Link.identity g.Li.Listener.ended g.Li.Listener.faults g.Do.Done.taken g.Do.Done.count g.Do.Done.served _ _ _ c.args.acceptor.now c.loop.acceptor c.turn-turned.new.self _ _ _ _ _ c.loop.invariant.0 c.turn-turned.ensures.does.acts)

pub returns-then-replace_one-clause-accepts : goal.returns-then-replace_one-clause-accepts
returns-then-replace_one-clause-accepts g c =
    accepts_as g.Li.Listener.given g.Li.Listener.left g.Li.Listener.rest g.Li.Link.Link.identity g.Li.Listener.ended g.Li.Listener.faults g.Do.Done.taken g.Do.Done.count g.Do.Done.served _ _ _ _ _ _ _ _ (sym c.if-replace_one.true) (accepts_more g.Li.Listener.given g.Li.Listener.left g.Li.Listener.rest g.Li.Link.Link.identity g.Li.Listener.ended g.Li.Listener.faults g.Do.Done.taken g.Do.Done.count g.Do.Done.served _ _ _ c.args.acceptor.now c.turn-turned.new.self c.replace_one.new.acceptor _ _ _ _ _ (accepts_more g.Li.Listener.given g.Li.Listener.left g.Li.Listener.rest g.Li.Link.Link.identity g.Li.Listener.ended g.Li.Listener.faults g.Do.Done.taken g.Do.Done.count g.Do.Done.served _ _ _ c.args.acceptor.now c.loop.acceptor c.turn-turned.new.self _ _ _ _ _ c.loop.invariant.0 c.turn-turned.ensures.does.acts) (c.replace_one.ensures.goes c.turn-turned.new.listeners.items).1)

pub returns-then-replace_one-clause-hears : goal.returns-then-replace_one-clause-hears
returns-then-replace_one-clause-hears g c =
    hears_leaves g.Co.Commands.given g.Co.Commands.stops g.Co.Commands.ended _ _ c.turn-turned.new.self c.replace_one.new.acceptor _ _ _ (hears_more g.Co.Commands.given g.Co.Commands.stops g.Co.Commands.idles g.Co.Commands.ended _ _ _ c.loop.acceptor c.turn-turned.new.self _ _ _ c.loop.invariant.3 c.turn-turned.ensures.takes c.turn-turned.ensures.does.acts.logged.core c.turn-turned.ensures.onward c.turn-turned.ensures.timeout c.turn-turned.ensures.stop c.turn-turned.ensures.forces) c.replace_one.ensures.rest

pub loop-preserved : goal.loop-preserved
loop-preserved g c = (
  accepts_as g.Li.Listener.given g.Li.Listener.left g.Li.Listener.rest g.Li.Link.Link.identity g.Li.Listener.ended g.Li.Listener.faults g.Do.Done.taken g.Do.Done.count g.Do.Done.served _ _ _ _ _ _ _ _ (sym c.if-replace_one.false) (accepts_more g.Li.Listener.given g.Li.Listener.left g.Li.Listener.rest g.Li.Link.Link.identity g.Li.Listener.ended g.Li.Listener.faults g.Do.Done.taken g.Do.Done.count g.Do.Done.served _ _ _ c.args.acceptor.now c.turn-turned.new.self c.replace_one.new.acceptor _ _ _ _ _ (accepts_more g.Li.Listener.given g.Li.Listener.left g.Li.Listener.rest g.Li.Link.Link.identity g.Li.Listener.ended g.Li.Listener.faults g.Do.Done.taken g.Do.Done.count g.Do.Done.served _ _ _ c.args.acceptor.now c.loop.acceptor c.turn-turned.new.self _ _ _ _ _ c.loop.invariant.0 c.turn-turned.ensures.does.acts) (c.replace_one.ensures.goes c.turn-turned.new.listeners.items).1),
  can_accept_leaves g.Li.Listener.given g.Li.Listener.left g.Li.Listener.rest g.Li.Link.Link.identity g.Li.Listener.ended g.Li.Listener.faults g.Do.Done.taken g.Do.Done.count g.Do.Done.served _ c.turn-turned.new.self c.replace_one.new.acceptor _ _ (can_accept_on g.Li.Listener.given g.Li.Listener.left g.Li.Listener.rest g.Li.Link.Link.identity g.Li.Listener.ended g.Li.Listener.faults g.Do.Done.taken g.Do.Done.count g.Do.Done.served _ _ c.loop.acceptor c.turn-turned.new.self _ _ _ _ _ _ c.loop.invariant.1 c.turn-turned.ensures.does.acts c.turn-turned.ensures.given c.turn-turned.ensures.spare) c.replace_one.ensures.rest c.replace_one.ensures.spare,
  restarts_trans (MayFault (g.F.ServerServiceFactory.may_ready c.args.factory.now) (g.F.ServerServiceFactory.may_init c.args.factory.now) _) _ _ _ (restarts_same (MayFault (g.F.ServerServiceFactory.may_ready c.args.factory.now) (g.F.ServerServiceFactory.may_init c.args.factory.now) _) _ _ _ c.loop.invariant.2 c.wake.ensures) (subst (λ k. Restarts (MayFault (g.F.ServerServiceFactory.may_ready c.args.factory.now) (g.F.ServerServiceFactory.may_init c.args.factory.now) k) (g.Sp.Spawner.starts c.wake.new.spawner, g.Sp.Spawner.refusals c.wake.new.spawner) (g.Sp.Spawner.starts c.replace_one.new.spawner, g.Sp.Spawner.refusals c.replace_one.new.spawner)) c.len-count.ensures c.replace_one.ensures.counts),
  hears_leaves g.Co.Commands.given g.Co.Commands.stops g.Co.Commands.ended _ _ c.turn-turned.new.self c.replace_one.new.acceptor _ _ _ (hears_more g.Co.Commands.given g.Co.Commands.stops g.Co.Commands.idles g.Co.Commands.ended _ _ _ c.loop.acceptor c.turn-turned.new.self _ _ _ c.loop.invariant.3 c.turn-turned.ensures.takes c.turn-turned.ensures.does.acts.logged.core c.turn-turned.ensures.onward c.turn-turned.ensures.timeout c.turn-turned.ensures.stop c.turn-turned.ensures.forces) c.replace_one.ensures.rest,
  subst (λ k. Crew g.F.ServerServiceFactory.may_serve g.F.ServerServiceFactory.may_leave g.F.ServerServiceFactory.may_ready g.F.ServerServiceFactory.may_init g.F.ServerServiceFactory.may_make g.Li.Link.Link.identity c.args.factory.now k c.replace_one.new.acceptor c.replace_one.new.running.items) c.len-count.ensures c.replace_one.ensures.crew,
  c.replace_one.ensures.as_many ∙ c.loop.invariant.5,
  closes_leaves c.turn-turned.new.self c.replace_one.new.acceptor c.replace_one.ensures.rest (closes_on g.Li.Listener.given g.Li.Listener.left g.Li.Listener.rest g.Li.Link.Link.identity g.Li.Listener.ended g.Li.Listener.faults g.Do.Done.taken g.Do.Done.count g.Do.Done.served _ _ c.loop.acceptor c.turn-turned.new.self _ _ _ _ c.turn-turned.ensures.does.acts c.loop.invariant.1.as_many (λ lacks. ap (λ v. v.items) (c.turn-turned.ensures.short lacks)) c.turn-turned.ensures.closes c.loop.invariant.6) (c.is_done.ensures.no c.if-is_done.false),
  λ calm. subst (λ k. AreRetired (g.F.ServerServiceFactory.may_init c.args.factory.now) k c.replace_one.new.running.items (g.Sp.Spawner.starts c.args.spawner.now, g.Sp.Spawner.refusals c.args.spawner.now) (g.Sp.Spawner.starts c.replace_one.new.spawner, g.Sp.Spawner.refusals c.replace_one.new.spawner)) c.len-count.ensures
      (c.replace_one.ensures.retires (g.Sp.Spawner.starts c.args.spawner.now, g.Sp.Spawner.refusals c.args.spawner.now) calm
      (subst (λ k. AreRetired (g.F.ServerServiceFactory.may_init c.args.factory.now) k c.loop.running.items (g.Sp.Spawner.starts c.args.spawner.now, g.Sp.Spawner.refusals c.args.spawner.now) (g.Sp.Spawner.starts c.wake.new.spawner, g.Sp.Spawner.refusals c.wake.new.spawner)) (sym c.len-count.ensures)
      (retired_on (g.F.ServerServiceFactory.may_init c.args.factory.now) (vec_len c.args.listeners.now) c.loop.running.items (g.Sp.Spawner.starts c.args.spawner.now, g.Sp.Spawner.refusals c.args.spawner.now) (g.Sp.Spawner.starts c.loop.spawner, g.Sp.Spawner.refusals c.loop.spawner) _ (c.loop.invariant.7 (unstopped_before (core_of c.loop.acceptor).stopping (core_of c.turn-turned.new.self).stopping c.turn-turned.ensures.does.acts.stops (sym c.replace_one.ensures.rest.stopping ∙ calm))) c.wake.ensures))),
)

pub returns-in-Finished-clause-finished : goal.returns-in-Finished-clause-finished
returns-in-Finished-clause-finished g c = found_ends _ c.turn-turned.new.self c.in-Finished.end c.end_of.result (c.turn-turned.ensures.finished c.in-Finished.end c.in-Finished.is) c.end_of.ensures.some

pub replace_one-requires-clause-told : goal.replace_one-requires-clause-told
replace_one-requires-clause-told g c κs within is = stopped_by_one c.turn-turned.new.self c.in-WorkerEnded.w (closes_on g.Li.Listener.given g.Li.Listener.left g.Li.Listener.rest g.Li.Link.Link.identity g.Li.Listener.ended g.Li.Listener.faults g.Do.Done.taken g.Do.Done.count g.Do.Done.served _ _ c.loop.acceptor c.turn-turned.new.self _ _ _ _ c.turn-turned.ensures.does.acts c.loop.invariant.1.as_many (λ lacks. ap (λ v. v.items) (c.turn-turned.ensures.short lacks)) c.turn-turned.ensures.closes c.loop.invariant.6) (c.is_done.ensures.no c.if-is_done.false) is

pub returns-then-replace_one-clause-alone : goal.returns-then-replace_one-clause-alone
returns-then-replace_one-clause-alone g c is =
    let last = c.replace_one.ensures.last c.if-replace_one.true in
    let calm = last.0.unstopped in
    all_retired_now (g.F.ServerServiceFactory.may_init c.args.factory.now) (vec_len c.args.listeners.now) c.replace_one.new.running.items (length c.replace_one.new.running.items) (g.Sp.Spawner.starts c.args.spawner.now, g.Sp.Spawner.refusals c.args.spawner.now) (g.Sp.Spawner.starts c.replace_one.new.spawner, g.Sp.Spawner.refusals c.replace_one.new.spawner) last.2 refl
    (subst (λ k. AreRetired (g.F.ServerServiceFactory.may_init c.args.factory.now) k c.replace_one.new.running.items (g.Sp.Spawner.starts c.args.spawner.now, g.Sp.Spawner.refusals c.args.spawner.now) (g.Sp.Spawner.starts c.replace_one.new.spawner, g.Sp.Spawner.refusals c.replace_one.new.spawner)) c.len-count.ensures
    (c.replace_one.ensures.retires (g.Sp.Spawner.starts c.args.spawner.now, g.Sp.Spawner.refusals c.args.spawner.now) calm
    (subst (λ k. AreRetired (g.F.ServerServiceFactory.may_init c.args.factory.now) k c.loop.running.items (g.Sp.Spawner.starts c.args.spawner.now, g.Sp.Spawner.refusals c.args.spawner.now) (g.Sp.Spawner.starts c.wake.new.spawner, g.Sp.Spawner.refusals c.wake.new.spawner)) (sym c.len-count.ensures)
    (retired_on (g.F.ServerServiceFactory.may_init c.args.factory.now) (vec_len c.args.listeners.now) c.loop.running.items (g.Sp.Spawner.starts c.args.spawner.now, g.Sp.Spawner.refusals c.args.spawner.now) (g.Sp.Spawner.starts c.loop.spawner, g.Sp.Spawner.refusals c.loop.spawner) _ (c.loop.invariant.7 (unstopped_before (core_of c.loop.acceptor).stopping (core_of c.turn-turned.new.self).stopping c.turn-turned.ensures.does.acts.stops (sym c.replace_one.ensures.rest.stopping ∙ calm))) c.wake.ensures))))

pub returns-in-Finished-clause-alone : goal.returns-in-Finished-clause-alone
returns-in-Finished-clause-alone g c is = absurd (true≢false (sym (ap ends_alone is) ∙ found_alone c.turn-turned.new.self c.in-Finished.end c.end_of.result _ (c.turn-turned.ensures.finished c.in-Finished.end c.in-Finished.is) c.end_of.ensures.some))
