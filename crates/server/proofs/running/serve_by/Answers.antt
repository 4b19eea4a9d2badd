use Rattle.std.proofs.Common.{◌∙◌, All, length, refl, ap, rules, subst, sym}
use Rattle.server.proofs.HearSteps.{gave_none, gave_on}
use Rattle.server.proofs.RetireSteps.{alone_since}
use Rattle.server.proofs.Rows.{started_join}
use Rattle.server.proofs.Starts.{as_many_rings, not_told}
use Rattle.server.specs.Rows.{rows_of}
use Rattle.server.specs.Starting.{HasStarted}
use Rattle.server_acceptor.specs.Acceptors.{notes_of, parcels_of}
use Rattle.server.proofs.running.serve_by.Goals as goal

pub join_all-requires-clause-as_many : goal.join_all-requires-clause-as_many
join_all-requires-clause-as_many g c κs within = (as_many_rings _ _ c.stop_all.ensures ∙ c.start_workers-fault.ensures.as_many.0, c.start_workers-fault.ensures.as_many.1)

pub join_all-requires-clause-lines : goal.join_all-requires-clause-lines
join_all-requires-clause-lines g c κs within =
    started_join g.F.ServerServiceFactory.may_serve g.F.ServerServiceFactory.may_leave g.F.ServerServiceFactory.may_ready g.F.ServerServiceFactory.may_init g.F.ServerServiceFactory.may_make
    g.Li.Link.Link.identity _ c.args.factory c.len-count.result _ _ _ _ _ c.stop_all.ensures refl c.start_workers-fault.ensures.started

pub returns-in-Some-clause-unrefused : goal.returns-in-Some-clause-unrefused
returns-in-Some-clause-unrefused g c faultless other = ap (λ counts. counts.1) c.wake_all.ensures ∙ c.in-Some.ensures.unrefused (not_told c.in-Some.fault _ c.error.result c.error.ensures other)

pub returns-then-is_empty-clause-heard : goal.returns-then-is_empty-clause-heard
returns-then-is_empty-clause-heard g c = gave_none g.Co.Commands.given g.Co.Commands.stops c.args.commands.now

pub returns-in_err-room-clause-heard : goal.returns-in_err-room-clause-heard
returns-in_err-room-clause-heard g c = gave_on g.Co.Commands.given g.Co.Commands.stops c.args.commands.now c.from_residual.result

pub returns-in_err-running-clause-heard : goal.returns-in_err-running-clause-heard
returns-in_err-running-clause-heard g c = gave_on g.Co.Commands.given g.Co.Commands.stops c.args.commands.now c.from_residual-in_err-running.result

pub returns-in-Some-clause-heard : goal.returns-in-Some-clause-heard
returns-in-Some-clause-heard g c = gave_none g.Co.Commands.given g.Co.Commands.stops c.args.commands.now

pub serve_on-requires-clause-started : goal.serve_on-requires-clause-started
serve_on-requires-clause-started g c κs within =
    let new = c.with_room-acceptor.ensures in
    let started = c.start_workers-fault in
    subst (λ k. All (HasStarted g.F.ServerServiceFactory.may_serve g.F.ServerServiceFactory.may_leave g.F.ServerServiceFactory.may_ready g.F.ServerServiceFactory.may_init g.F.ServerServiceFactory.may_make g.Li.Link.Link.identity (length started.new.running.items) c.args.factory k) (rows_of (parcels_of c.with_room-acceptor.result) (notes_of c.with_room-acceptor.result) started.new.running.items)) c.len-count.ensures
    (subst (λ ps. All (HasStarted g.F.ServerServiceFactory.may_serve g.F.ServerServiceFactory.may_leave g.F.ServerServiceFactory.may_ready g.F.ServerServiceFactory.may_init g.F.ServerServiceFactory.may_make g.Li.Link.Link.identity (length started.new.running.items) c.args.factory c.len-count.result) (rows_of ps (notes_of c.with_room-acceptor.result) started.new.running.items)) (sym new.producers)
    (subst (λ ns. All (HasStarted g.F.ServerServiceFactory.may_serve g.F.ServerServiceFactory.may_leave g.F.ServerServiceFactory.may_ready g.F.ServerServiceFactory.may_init g.F.ServerServiceFactory.may_make g.Li.Link.Link.identity (length started.new.running.items) c.args.factory c.len-count.result) (rows_of started.new.parcels.items ns started.new.running.items)) (sym new.consumers)
    (subst (λ n. All (HasStarted g.F.ServerServiceFactory.may_serve g.F.ServerServiceFactory.may_leave g.F.ServerServiceFactory.may_ready g.F.ServerServiceFactory.may_init g.F.ServerServiceFactory.may_make g.Li.Link.Link.identity n c.args.factory c.len-count.result) (rows_of started.new.parcels.items started.new.notes.items started.new.running.items)) (sym (started.ensures.all (search rules))) started.ensures.started)))

pub returns-clause-alone : goal.returns-clause-alone
returns-clause-alone g c =
    alone_since (g.F.ServerServiceFactory.may_init c.args.factory) _ _ _ (g.Sp.Spawner.starts c.args.spawner.now, g.Sp.Spawner.refusals c.args.spawner.now) (g.Sp.Spawner.starts c.start_workers-fault.new.spawner, g.Sp.Spawner.refusals c.start_workers-fault.new.spawner) _ c.serve_on.result
    (c.start_workers-fault.ensures.all (search rules)) c.start_workers-fault.ensures.begun (c.start_workers-fault.ensures.unrefused (search rules)) c.serve_on.ensures.alone
