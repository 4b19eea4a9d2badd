use Rattle.std.proofs.Common.{◌≡◌, ◌≤◌, ◌+◌, All, Some, false, length, true, vec_len, map, sum_by, subst, sym, ap, ◌∙◌, arith}
use Rattle.std.specs.Prelude.{slice_index_or}
use Rattle.server_acceptor.specs.Acceptors.{notes_of, parcels_of}
use Rattle.server_acceptor.specs.Rings.{ring_in, ring_out}
use Rattle.server.proofs.CrewSteps.{crew_start}
use Rattle.server.proofs.FinishSteps.{fewer_after, in_time_all, joins_after, made_all, many_after, none_of, none_received_yet, none_sent_yet, refuses, room_after, startup_is, tells_run, unmarked, untold_start}
use Rattle.server.proofs.HearSteps.{gave, is_told}
use Rattle.server.proofs.RetireSteps.{first_started}
use Rattle.server.proofs.StartSteps.{carries_start}
use Rattle.server.specs.Accepting.{ends_alone}
use Rattle.server.specs.Retiring.{Retirements}
use Rattle.server.specs.Returning.{many_back, many_put}
use Rattle.server.specs.Rows.{rows_of}
use Rattle.server.proofs.serving.serve_on.Goals as goal

pub accept_on-end-requires-clause-fresh : goal.accept_on-end-requires-clause-fresh
accept_on-end-requires-clause-fresh g c κs within =
    untold_start g.F.ServerServiceFactory.may_serve g.F.ServerServiceFactory.may_leave g.F.ServerServiceFactory.may_ready g.F.ServerServiceFactory.may_init g.F.ServerServiceFactory.may_make
    g.Li.Link.Link.identity _ _ _ _ _ _ c.args.acceptor c.args.running.items c.requires.fresh c.requires.as_many c.requires.started

pub accept_on-end-requires-clause-noted : goal.accept_on-end-requires-clause-noted
accept_on-end-requires-clause-noted g c κs within w is = absurd (unmarked _ w (subst (λ marks. slice_index_or marks w false ≡ true) c.requires.fresh.ready is))

pub accept_on-end-requires-clause-carries : goal.accept_on-end-requires-clause-carries
accept_on-end-requires-clause-carries g c κs within =
    carries_start g.Li.Listener.given g.Li.Listener.left g.Li.Link.Link.identity false _ c.args.acceptor _ _ _ _ _ _ c.requires.fresh
    (none_sent_yet g.F.ServerServiceFactory.may_serve g.F.ServerServiceFactory.may_leave g.F.ServerServiceFactory.may_ready g.F.ServerServiceFactory.may_init g.F.ServerServiceFactory.may_make
    g.Li.Link.Link.identity _ _ _ _ _ c.args.running.items c.requires.as_many c.requires.started)
    (none_received_yet g.F.ServerServiceFactory.may_serve g.F.ServerServiceFactory.may_leave g.F.ServerServiceFactory.may_ready g.F.ServerServiceFactory.may_init g.F.ServerServiceFactory.may_make
    g.Li.Link.Link.identity _ _ _ _ _ c.args.running.items c.requires.as_many c.requires.started)

pub accept_on-end-requires-clause-crew : goal.accept_on-end-requires-clause-crew
accept_on-end-requires-clause-crew g c κs within =
    crew_start g.F.ServerServiceFactory.may_serve g.F.ServerServiceFactory.may_leave g.F.ServerServiceFactory.may_ready g.F.ServerServiceFactory.may_init g.F.ServerServiceFactory.may_make
    g.Li.Link.Link.identity c.args.factory.now _ _ _ _ c.args.acceptor c.args.running.items c.requires.fresh c.requires.as_many c.requires.started

pub join_all-requires-clause-as_many : goal.join_all-requires-clause-as_many
join_all-requires-clause-as_many g c κs within =
    many_after g.Li.Listener.given g.Li.Listener.left g.Li.Listener.rest g.Li.Link.Link.identity g.Li.Listener.ended g.Li.Listener.faults g.Do.Done.taken g.Do.Done.count g.Do.Done.served g.F.ServerServiceFactory.may_serve g.F.ServerServiceFactory.may_leave g.F.ServerServiceFactory.may_ready g.F.ServerServiceFactory.may_init g.F.ServerServiceFactory.may_make
    c.args.factory.now _ _ _ _ _ _ c.args.acceptor c.accept_on-end.new.acceptor c.args.running.items c.accept_on-end.new.running.items _ _ c.requires.fresh c.requires.as_many c.requires.started _ c.accept_on-end.ensures.accepts c.accept_on-end.ensures.crew c.accept_on-end.ensures.as_many
    c.stop_all.new.parcels.items c.into_rings-parcels.result.1.items (c.stop_all.ensures ∙ ap (map ring_in) c.into_rings-parcels.ensures.0) (ap (map ring_out) c.into_rings-parcels.ensures.1)

pub join_all-requires-clause-lines : goal.join_all-requires-clause-lines
join_all-requires-clause-lines g c κs within =
    joins_after g.Li.Listener.given g.Li.Listener.left g.Li.Listener.rest g.Li.Link.Link.identity g.Li.Listener.ended g.Li.Listener.faults g.Do.Done.taken g.Do.Done.count g.Do.Done.served g.F.ServerServiceFactory.may_serve g.F.ServerServiceFactory.may_leave g.F.ServerServiceFactory.may_ready g.F.ServerServiceFactory.may_init g.F.ServerServiceFactory.may_make
    c.args.factory.now _ _ _ _ _ _ c.args.acceptor c.accept_on-end.new.acceptor c.args.running.items c.accept_on-end.new.running.items _ _ c.requires.fresh c.requires.as_many c.requires.started _ c.accept_on-end.ensures.accepts c.accept_on-end.ensures.crew c.accept_on-end.ensures.as_many
    c.stop_all.new.parcels.items c.into_rings-parcels.result.1.items (c.stop_all.ensures ∙ ap (map ring_in) c.into_rings-parcels.ensures.0) (ap (map ring_out) c.into_rings-parcels.ensures.1)

pub returns-in_default-clause-startup : goal.returns-in_default-clause-startup
returns-in_default-clause-startup g c =
    startup_is g.Li.Listener.given g.Li.Listener.left g.Li.Listener.rest g.Li.Link.Link.identity g.Li.Listener.ended g.Li.Listener.faults g.Do.Done.taken g.Do.Done.count g.Do.Done.served g.F.ServerServiceFactory.may_serve g.F.ServerServiceFactory.may_leave g.F.ServerServiceFactory.may_ready g.F.ServerServiceFactory.may_init g.F.ServerServiceFactory.may_make
    c.args.factory.now _ _ _ _ _ _ c.args.acceptor c.accept_on-end.new.acceptor c.args.running.items c.accept_on-end.new.running.items _ _ c.requires.fresh c.requires.as_many c.requires.started _ c.accept_on-end.ensures.accepts c.accept_on-end.ensures.crew c.accept_on-end.ensures.as_many
    c.stop_all.new.parcels.items c.into_rings-parcels.result.1.items (c.stop_all.ensures ∙ ap (map ring_in) c.into_rings-parcels.ensures.0) (ap (map ring_out) c.into_rings-parcels.ensures.1)
    _ c.args.running.ok.0 c.join_all.result c.error_of.result c.join_all.ensures.unstarted c.error_of.ensures

pub returns-in_default-clause-before : goal.returns-in_default-clause-before
returns-in_default-clause-before g c =
    refuses g.Li.Listener.given g.Li.Listener.left g.Li.Listener.rest g.Li.Link.Link.identity g.Li.Listener.ended g.Li.Listener.faults g.Do.Done.taken g.Do.Done.count g.Do.Done.served g.F.ServerServiceFactory.may_serve g.F.ServerServiceFactory.may_leave g.F.ServerServiceFactory.may_ready g.F.ServerServiceFactory.may_init g.F.ServerServiceFactory.may_make
    c.args.factory.now _ _ _ _ _ _ c.args.acceptor c.accept_on-end.new.acceptor c.args.running.items c.accept_on-end.new.running.items _ _ c.requires.fresh c.requires.as_many c.requires.started _ c.accept_on-end.ensures.accepts c.accept_on-end.ensures.crew c.accept_on-end.ensures.as_many
    (g.met.Do.Done.small c.args.done.now) (c.accept_on-end.ensures.refused (none_of c.accept_on-end.result c.in_default.not-Some))

pub returns-in_default-clause-heard : goal.returns-in_default-clause-heard
returns-in_default-clause-heard g c = gave g.Co.Commands.given g.Co.Commands.stops g.Co.Commands.ended _ _ _ c.accept_on-end.ensures.hears.commanded

pub return_all-requires-clause-as_many : goal.return_all-requires-clause-as_many
return_all-requires-clause-as_many g c κs within =
    many_after g.Li.Listener.given g.Li.Listener.left g.Li.Listener.rest g.Li.Link.Link.identity g.Li.Listener.ended g.Li.Listener.faults g.Do.Done.taken g.Do.Done.count g.Do.Done.served g.F.ServerServiceFactory.may_serve g.F.ServerServiceFactory.may_leave g.F.ServerServiceFactory.may_ready g.F.ServerServiceFactory.may_init g.F.ServerServiceFactory.may_make
    c.args.factory.now _ _ _ _ _ _ c.args.acceptor c.accept_on-end.new.acceptor c.args.running.items c.accept_on-end.new.running.items _ _ c.requires.fresh c.requires.as_many c.requires.started _ c.accept_on-end.ensures.accepts c.accept_on-end.ensures.crew c.accept_on-end.ensures.as_many
    c.into_rings-parcels-2.result.0.items c.into_rings-parcels-2.result.1.items (ap (map ring_in) c.into_rings-parcels-2.ensures.0) (ap (map ring_out) c.into_rings-parcels-2.ensures.1)

pub return_all-requires-clause-lines : goal.return_all-requires-clause-lines
return_all-requires-clause-lines g c κs within =
    joins_after g.Li.Listener.given g.Li.Listener.left g.Li.Listener.rest g.Li.Link.Link.identity g.Li.Listener.ended g.Li.Listener.faults g.Do.Done.taken g.Do.Done.count g.Do.Done.served g.F.ServerServiceFactory.may_serve g.F.ServerServiceFactory.may_leave g.F.ServerServiceFactory.may_ready g.F.ServerServiceFactory.may_init g.F.ServerServiceFactory.may_make
    c.args.factory.now _ _ _ _ _ _ c.args.acceptor c.accept_on-end.new.acceptor c.args.running.items c.accept_on-end.new.running.items _ _ c.requires.fresh c.requires.as_many c.requires.started _ c.accept_on-end.ensures.accepts c.accept_on-end.ensures.crew c.accept_on-end.ensures.as_many
    c.into_rings-parcels-2.result.0.items c.into_rings-parcels-2.result.1.items (ap (map ring_in) c.into_rings-parcels-2.ensures.0) (ap (map ring_out) c.into_rings-parcels-2.ensures.1)

pub return_all-requires-clause-fewer : goal.return_all-requires-clause-fewer
return_all-requires-clause-fewer g c κs within =
    subst (λ ps. All (λ row. many_back g.Li.Link.Link.identity row ≤ many_put g.Li.Link.Link.identity row) (rows_of ps c.into_rings-parcels-2.result.1.items c.accept_on-end.new.running.items)) (sym c.into_rings-parcels-2.ensures.0)
    (subst (λ ns. All (λ row. many_back g.Li.Link.Link.identity row ≤ many_put g.Li.Link.Link.identity row) (rows_of (parcels_of c.accept_on-end.new.acceptor) ns c.accept_on-end.new.running.items)) (sym c.into_rings-parcels-2.ensures.1)
    (fewer_after g.Li.Listener.given g.Li.Listener.left g.Li.Listener.rest g.Li.Link.Link.identity g.Li.Listener.ended g.Li.Listener.faults g.Do.Done.taken g.Do.Done.count g.Do.Done.served g.F.ServerServiceFactory.may_serve g.F.ServerServiceFactory.may_leave g.F.ServerServiceFactory.may_ready g.F.ServerServiceFactory.may_init g.F.ServerServiceFactory.may_make
    c.args.factory.now _ _ _ _ _ _ c.args.acceptor c.accept_on-end.new.acceptor c.args.running.items c.accept_on-end.new.running.items _ _ c.requires.fresh c.requires.as_many c.requires.started _ c.accept_on-end.ensures.accepts c.accept_on-end.ensures.crew c.accept_on-end.ensures.as_many))

pub return_all-requires-clause-room : goal.return_all-requires-clause-room
return_all-requires-clause-room g c κs within =
    subst (λ ps. sum_by (many_put g.Li.Link.Link.identity) (rows_of ps c.into_rings-parcels-2.result.1.items c.accept_on-end.new.running.items) ≤ sum_by (many_back g.Li.Link.Link.identity) (rows_of ps c.into_rings-parcels-2.result.1.items c.accept_on-end.new.running.items) + g.Do.Done.spare c.accept_on-end.new.done) (sym c.into_rings-parcels-2.ensures.0)
    (subst (λ ns. sum_by (many_put g.Li.Link.Link.identity) (rows_of (parcels_of c.accept_on-end.new.acceptor) ns c.accept_on-end.new.running.items) ≤ sum_by (many_back g.Li.Link.Link.identity) (rows_of (parcels_of c.accept_on-end.new.acceptor) ns c.accept_on-end.new.running.items) + g.Do.Done.spare c.accept_on-end.new.done) (sym c.into_rings-parcels-2.ensures.1)
    (room_after g.Li.Listener.given g.Li.Listener.left g.Li.Listener.rest g.Li.Link.Link.identity g.Li.Listener.ended g.Li.Listener.faults g.Do.Done.taken g.Do.Done.count g.Do.Done.served g.F.ServerServiceFactory.may_serve g.F.ServerServiceFactory.may_leave g.F.ServerServiceFactory.may_ready g.F.ServerServiceFactory.may_init g.F.ServerServiceFactory.may_make
    c.args.factory.now _ _ _ _ _ _ c.args.acceptor c.accept_on-end.new.acceptor c.args.running.items c.accept_on-end.new.running.items _ _ c.requires.fresh c.requires.as_many c.requires.started _ c.accept_on-end.ensures.accepts c.accept_on-end.ensures.crew c.accept_on-end.ensures.as_many
    (g.Do.Done.spare c.accept_on-end.new.done) c.accept_on-end.ensures.room))

-- the laws of the factory hold on each thread, and so on this one
pub returns-clause-serves : goal.returns-clause-serves
returns-clause-serves g c =
    let laws = g.met.F.ServerServiceFactory g.world.𝓛 g.world.𝓜 g.world.𝓡 ((λ s x. x), (λ x. x), (λ x. x), λ x. x) in
    in_time_all g.Li.Listener.given g.Li.Listener.left g.Li.Listener.rest g.Li.Link.Link.identity g.Li.Listener.ended g.Li.Listener.faults g.Do.Done.taken g.Do.Done.count g.Do.Done.served g.F.ServerServiceFactory.may_serve g.F.ServerServiceFactory.may_leave g.F.ServerServiceFactory.may_ready g.F.ServerServiceFactory.may_init g.F.ServerServiceFactory.may_make
    c.args.factory.now _ _ _ _ _ _ c.args.acceptor c.accept_on-end.new.acceptor c.args.running.items c.accept_on-end.new.running.items _ _ c.requires.fresh c.requires.as_many c.requires.started _ c.accept_on-end.ensures.accepts c.accept_on-end.ensures.crew c.accept_on-end.ensures.as_many
    g.Do.Done.spare c.into_rings-parcels-2.result.0.items c.into_rings-parcels-2.result.1.items c.into_rings-parcels-2.ensures.0 c.into_rings-parcels-2.ensures.1 c.return_all.new.done c.in-Some.end c.in-Some.ensures.finished.1 (ap ends_alone c.in-Some.is) c.return_all.ensures
    laws.same_served laws.same_left _ _ c.accept_on-end.ensures.hears.in_time

pub returns-clause-commanded : goal.returns-clause-commanded
returns-clause-commanded g c = is_told g.Co.Commands.given g.Co.Commands.stops g.Co.Commands.ended _ _ c.accept_on-end.new.acceptor c.in-Some.end _ c.accept_on-end.ensures.hears.commanded c.in-Some.ensures.finished.1

pub returns-clause-told : goal.returns-clause-told
returns-clause-told g c =
    let t = c.tell_states.ensures in
    tells_run g.Li.Listener.given g.Li.Listener.left g.Li.Listener.rest g.Li.Link.Link.identity g.Li.Listener.ended g.Li.Listener.faults g.Do.Done.taken g.Do.Done.count g.Do.Done.served g.F.ServerServiceFactory.may_serve g.F.ServerServiceFactory.may_leave g.F.ServerServiceFactory.may_ready g.F.ServerServiceFactory.may_init g.F.ServerServiceFactory.may_make
    c.args.factory.now _ _ _ _ _ _ c.args.acceptor c.accept_on-end.new.acceptor c.args.running.items c.accept_on-end.new.running.items _ _ c.requires.fresh c.requires.as_many c.requires.started _ c.accept_on-end.ensures.accepts c.accept_on-end.ensures.crew c.accept_on-end.ensures.as_many
    _ c.in-Some.ensures.finished.1 c.args.listeners.now.ok.0 (t.as_many ∙ c.len.ensures ∙ c.accept_on-end.new.listeners.ok.0) t.states

pub returns-clause-made : goal.returns-clause-made
returns-clause-made g c unstopped =
    made_all g.Li.Listener.given g.Li.Listener.left g.Li.Listener.rest g.Li.Link.Link.identity g.Li.Listener.ended g.Li.Listener.faults g.Do.Done.taken g.Do.Done.count g.Do.Done.served g.F.ServerServiceFactory.may_serve g.F.ServerServiceFactory.may_leave g.F.ServerServiceFactory.may_ready g.F.ServerServiceFactory.may_init g.F.ServerServiceFactory.may_make
    c.args.factory.now _ _ _ _ _ _ c.args.acceptor c.accept_on-end.new.acceptor c.args.running.items c.accept_on-end.new.running.items _ _ c.requires.fresh c.requires.as_many c.requires.started _ c.accept_on-end.ensures.accepts c.accept_on-end.ensures.crew c.accept_on-end.ensures.as_many
    g.Do.Done.spare c.into_rings-parcels-2.result.0.items c.into_rings-parcels-2.result.1.items c.into_rings-parcels-2.ensures.0 c.into_rings-parcels-2.ensures.1 c.return_all.new.done c.in-Some.end c.in-Some.ensures.finished.1 (ap ends_alone c.in-Some.is) c.return_all.ensures
    (omega (arith, c.requires.some.0, c.args.running.ok.0)) (c.in-Some.ensures.finished.0 unstopped)

pub accept_on-end-requires-clause-first : goal.accept_on-end-requires-clause-first
accept_on-end-requires-clause-first g c κs within =
    first_started g.F.ServerServiceFactory.may_serve g.F.ServerServiceFactory.may_leave g.F.ServerServiceFactory.may_ready g.F.ServerServiceFactory.may_init g.F.ServerServiceFactory.may_make
    g.Li.Link.Link.identity _ _ _ (parcels_of c.args.acceptor) (notes_of c.args.acceptor) c.args.running.items c.requires.as_many c.requires.started

pub returns-clause-alone : goal.returns-clause-alone
returns-clause-alone g c is =
    subst (Retirements (g.F.ServerServiceFactory.may_init c.args.factory.now) (vec_len c.args.listeners.now) (length c.args.running.items) 0 (g.Sp.Spawner.starts c.args.spawner.now, g.Sp.Spawner.refusals c.args.spawner.now)) (sym c.wake_all-2.ensures)
    (subst (λ n. Retirements (g.F.ServerServiceFactory.may_init c.args.factory.now) (vec_len c.args.listeners.now) n 0 (g.Sp.Spawner.starts c.args.spawner.now, g.Sp.Spawner.refusals c.args.spawner.now) (g.Sp.Spawner.starts c.accept_on-end.new.spawner, g.Sp.Spawner.refusals c.accept_on-end.new.spawner)) c.accept_on-end.ensures.as_many
    (c.accept_on-end.ensures.alone (c.in-Some.is ∙ ap (λ e. Some e) is)))
