use Rattle.std.proofs.Common.{◌∙◌, false, ◌<◌, ◌≤◌, length, slice_get, ap, arith, length-set, subst, sym}
use Rattle.server_acceptor.specs.Acceptors.{core_of, out_of}
use Rattle.server_acceptor.specs.Parting.{LeavesRest}
use Rattle.server.specs.Replacing.{Crew}
use Rattle.server.specs.Retiring.{AreRetired}
use Rattle.server.proofs.FinishSteps.{none_of}
use Rattle.server.proofs.PartSteps.{crew_over}
use Rattle.server.proofs.PlaceSteps.{calm_now, may_now, placed_nowhere, replaced_keeps, same_total}
use Rattle.server.proofs.SettleSteps.{alone_vacant, can_begin, crew_filled, crew_vacant, has_place, placed_filled, placed_vacant, rest_there, restarts_filled, restarts_vacant, retires_filled, retires_vacant, room_there, still_inside}
use Rattle.server.proofs.TakeBackSteps.{goes_trans, leaves_none}
use Rattle.server.proofs.replacing.replace_one.Goals as goal

pub part-requires-clause-number : goal.part-requires-clause-number
part-requires-clause-number g c κs within =
    (c.requires.number.0, omega (arith, c.requires.crew.as_many.0, c.args.acceptor.now.workers.0, c.requires.number.0))

pub part-requires-clause-over : goal.part-requires-clause-over
part-requires-clause-over g c κs within =
    crew_over g.F.ServerServiceFactory.may_serve g.F.ServerServiceFactory.may_leave g.F.ServerServiceFactory.may_ready g.F.ServerServiceFactory.may_init g.F.ServerServiceFactory.may_make g.Li.Link.Link.identity c.args.factory.now c.args.listeners c.args.acceptor.now c.args.w c.args.running.now.items c.requires.crew

pub returns-in_default-clause-goes : goal.returns-in_default-clause-goes
returns-in_default-clause-goes g c =
    c.part.ensures.goes c.args.done.now (g.met.Do.Done.small c.args.done.now)

pub returns-in_default-clause-crew : goal.returns-in_default-clause-crew
returns-in_default-clause-crew g c =
    let none = c.part.ensures.none (none_of c.part.result c.in_default.not-Some) in
    subst (λ a. Crew g.F.ServerServiceFactory.may_serve g.F.ServerServiceFactory.may_leave g.F.ServerServiceFactory.may_ready g.F.ServerServiceFactory.may_init g.F.ServerServiceFactory.may_make g.Li.Link.Link.identity c.args.factory.now c.args.listeners a c.part.new.running.items) (sym none.0) (subst (λ rs. Crew g.F.ServerServiceFactory.may_serve g.F.ServerServiceFactory.may_leave g.F.ServerServiceFactory.may_ready g.F.ServerServiceFactory.may_init g.F.ServerServiceFactory.may_make g.Li.Link.Link.identity c.args.factory.now c.args.listeners c.args.acceptor.now rs) (sym none.2) c.requires.crew)

pub returns-in_default-clause-as_many : goal.returns-in_default-clause-as_many
returns-in_default-clause-as_many g c =
    ap length (c.part.ensures.none (none_of c.part.result c.in_default.not-Some)).2

pub returns-in_default-clause-spare : goal.returns-in_default-clause-spare
returns-in_default-clause-spare g c =
    subst (λ a. out_of a ≤ g.Do.Done.spare c.args.done.now) (sym (c.part.ensures.none (none_of c.part.result c.in_default.not-Some)).0) c.requires.spare

pub returns-in_default-clause-rest : goal.returns-in_default-clause-rest
returns-in_default-clause-rest g c =
    subst (λ a. LeavesRest c.args.acceptor.now a) (sym (c.part.ensures.none (none_of c.part.result c.in_default.not-Some)).0) (leaves_none c.args.acceptor.now)

pub returns-in_default-clause-placed : goal.returns-in_default-clause-placed
returns-in_default-clause-placed g c =
    let none = c.part.ensures.none (none_of c.part.result c.in_default.not-Some) in placed_nowhere _ c.part.new.running.items c.args.w (ap (λ rs. slice_get rs c.args.w) none.2 ∙ none.1)

pub returns-in_default-clause-retires : goal.returns-in_default-clause-retires
returns-in_default-clause-retires g c before calm so_far =
    subst (λ rs. AreRetired (g.F.ServerServiceFactory.may_init c.args.factory.now) c.args.listeners rs before (g.Sp.Spawner.starts c.args.spawner.now, g.Sp.Spawner.refusals c.args.spawner.now)) (sym (c.part.ensures.none (none_of c.part.result c.in_default.not-Some)).2) so_far

pub successor-job-requires-clause-may : goal.successor-job-requires-clause-may
successor-job-requires-clause-may g c κs within =
    may_now g.F.ServerServiceFactory.may_serve g.F.ServerServiceFactory.may_leave g.F.ServerServiceFactory.may_ready g.F.ServerServiceFactory.may_init g.F.ServerServiceFactory.may_make g.Li.Link.Link.identity c.args.factory.now c.args.listeners c.args.acceptor.now c.part.new.acceptor c.args.w c.args.running.now.items c.part.new.running.items c.in-Some.handed c.requires.crew c.requires.faulted c.requires.even (c.in-Some.ensures.parted c.args.done.now) (subst (λ k. c.args.w < k) (sym (c.in-Some.ensures.parted c.args.done.now).rest.workers) c.requires.number.0)

pub successor-job-requires-clause-founded : goal.successor-job-requires-clause-founded
successor-job-requires-clause-founded g c κs within =
    calm_now g.F.ServerServiceFactory.may_serve g.F.ServerServiceFactory.may_leave g.F.ServerServiceFactory.may_ready g.F.ServerServiceFactory.may_init g.F.ServerServiceFactory.may_make g.Li.Link.Link.identity c.args.factory.now c.args.listeners c.args.acceptor.now c.part.new.acceptor c.args.w c.args.running.now.items c.part.new.running.items c.in-Some.handed c.requires.crew c.requires.faulted c.requires.even (c.in-Some.ensures.parted c.args.done.now)

pub successor-job-requires-clause-to_it : goal.successor-job-requires-clause-to_it
successor-job-requires-clause-to_it g c κs within =
    (c.in-Some.ensures.parted c.args.done.now).pair_to

pub returns-in_default-start_next-clause-goes : goal.returns-in_default-start_next-clause-goes
returns-in_default-start_next-clause-goes g c =
    goes_trans g.Li.Listener.given g.Li.Listener.left g.Li.Listener.rest g.Li.Link.Link.identity g.Li.Listener.ended g.Li.Listener.faults g.Do.Done.taken g.Do.Done.count g.Do.Done.served c.args.acceptor.now c.successor-job.new.acceptor c.retire.new.self _ c.successor-job.new.done _ c.retire.result (goes_trans g.Li.Listener.given g.Li.Listener.left g.Li.Listener.rest g.Li.Link.Link.identity g.Li.Listener.ended g.Li.Listener.faults g.Do.Done.taken g.Do.Done.count g.Do.Done.served c.args.acceptor.now c.part.new.acceptor c.successor-job.new.acceptor _ c.args.done.now _ false (c.part.ensures.goes c.args.done.now (g.met.Do.Done.small c.args.done.now)) c.successor-job.ensures.goes) c.retire.ensures.acts

pub returns-in_default-start_next-clause-crew : goal.returns-in_default-start_next-clause-crew
returns-in_default-start_next-clause-crew g c =
    crew_vacant g.F.ServerServiceFactory.may_serve g.F.ServerServiceFactory.may_leave g.F.ServerServiceFactory.may_ready g.F.ServerServiceFactory.may_init g.F.ServerServiceFactory.may_make g.Li.Link.Link.identity c.args.factory.now c.args.listeners c.args.acceptor.now c.part.new.acceptor c.args.w c.args.running.now.items c.part.new.running.items c.in-Some.handed c.requires.crew c.requires.faulted c.requires.even (c.in-Some.ensures.parted c.args.done.now) c.requires.number.0 c.successor-job.new.acceptor c.retire.new.self c.successor-job.ensures.recalls c.retire.ensures.retired c.retire.ensures.parcels c.retire.ensures.notes c.retire.ensures.order c.retire.ensures.others c.retire.ensures.out

pub returns-in_default-start_next-clause-last : goal.returns-in_default-start_next-clause-last
returns-in_default-start_next-clause-last g c is =
    alone_vacant g.F.ServerServiceFactory.may_serve g.F.ServerServiceFactory.may_leave g.F.ServerServiceFactory.may_ready g.F.ServerServiceFactory.may_init g.F.ServerServiceFactory.may_make g.Li.Link.Link.identity c.args.factory.now c.args.listeners c.args.acceptor.now c.part.new.acceptor c.args.w c.args.running.now.items c.part.new.running.items c.in-Some.handed c.requires.crew c.requires.faulted c.requires.even (c.in-Some.ensures.parted c.args.done.now) c.requires.number.0 c.successor-job.new.acceptor c.retire.new.self c.successor-job.ensures.recalls c.retire.ensures.retired c.retire.ensures.parcels c.retire.ensures.notes c.retire.ensures.order c.retire.ensures.others c.retire.ensures.out (c.retire.ensures.last is)

pub returns-in_default-start_next-clause-rest : goal.returns-in_default-start_next-clause-rest
returns-in_default-start_next-clause-rest g c =
    rest_there g.F.ServerServiceFactory.may_serve g.F.ServerServiceFactory.may_leave g.F.ServerServiceFactory.may_ready g.F.ServerServiceFactory.may_init g.F.ServerServiceFactory.may_make g.Li.Link.Link.identity c.args.factory.now c.args.listeners c.args.acceptor.now c.part.new.acceptor c.args.w c.args.running.now.items c.part.new.running.items c.in-Some.handed c.requires.crew c.requires.faulted c.requires.even (c.in-Some.ensures.parted c.args.done.now) c.requires.number.0 c.successor-job.new.acceptor c.retire.new.self c.successor-job.ensures.recalls c.retire.ensures.rest

pub returns-in_default-start_next-clause-counts : goal.returns-in_default-start_next-clause-counts
returns-in_default-start_next-clause-counts g c =
    restarts_vacant g.F.ServerServiceFactory.may_serve g.F.ServerServiceFactory.may_leave g.F.ServerServiceFactory.may_ready g.F.ServerServiceFactory.may_init g.F.ServerServiceFactory.may_make g.Li.Link.Link.identity c.args.factory.now c.args.listeners c.args.acceptor.now c.part.new.acceptor c.args.w c.args.running.now.items c.part.new.running.items c.in-Some.handed c.requires.crew c.requires.faulted c.requires.even (c.in-Some.ensures.parted c.args.done.now) c.successor-job.result (g.Sp.Spawner.starts c.args.spawner.now, g.Sp.Spawner.refusals c.args.spawner.now) (g.Sp.Spawner.starts c.start_next.new.spawner, g.Sp.Spawner.refusals c.start_next.new.spawner) (c.start_next.ensures.none (none_of c.start_next.result c.in_default-start_next.not-Some))

pub returns-in_default-start_next-clause-placed : goal.returns-in_default-start_next-clause-placed
returns-in_default-start_next-clause-placed g c =
    placed_vacant g.F.ServerServiceFactory.may_serve g.F.ServerServiceFactory.may_leave g.F.ServerServiceFactory.may_ready g.F.ServerServiceFactory.may_init g.F.ServerServiceFactory.may_make g.Li.Link.Link.identity c.args.factory.now c.args.listeners c.args.acceptor.now c.part.new.acceptor c.args.w c.args.running.now.items c.part.new.running.items c.in-Some.handed c.requires.crew c.requires.faulted c.requires.even (c.in-Some.ensures.parted c.args.done.now) c.requires.number.0 c.successor-job.new.acceptor c.retire.new.self c.successor-job.ensures.recalls _

pub returns-in_default-start_next-clause-retires : goal.returns-in_default-start_next-clause-retires
returns-in_default-start_next-clause-retires g c before calm so_far =
    retires_vacant g.F.ServerServiceFactory.may_serve g.F.ServerServiceFactory.may_leave g.F.ServerServiceFactory.may_ready g.F.ServerServiceFactory.may_init g.F.ServerServiceFactory.may_make g.Li.Link.Link.identity c.args.factory.now c.args.listeners c.args.acceptor.now c.part.new.acceptor c.args.w c.args.running.now.items c.part.new.running.items c.in-Some.handed c.requires.crew c.requires.faulted c.requires.even (c.in-Some.ensures.parted c.args.done.now) c.requires.number.0 c.successor-job.new.acceptor c.retire.new.self c.successor-job.ensures.recalls c.successor-job.result before (g.Sp.Spawner.starts c.args.spawner.now, g.Sp.Spawner.refusals c.args.spawner.now) (g.Sp.Spawner.starts c.start_next.new.spawner, g.Sp.Spawner.refusals c.start_next.new.spawner) (c.start_next.ensures.none (none_of c.start_next.result c.in_default-start_next.not-Some)) calm c.retire.ensures.rest c.requires.told c.successor-job.ensures.none so_far

pub returns-in_default-start_next-clause-as_many : goal.returns-in_default-start_next-clause-as_many
returns-in_default-start_next-clause-as_many g c =
    ap length (c.in-Some.ensures.parted c.args.done.now).vacant ∙ length-set c.args.running.now.items c.args.w _

pub returns-clause-goes : goal.returns-clause-goes
returns-clause-goes g c =
    goes_trans g.Li.Listener.given g.Li.Listener.left g.Li.Listener.rest g.Li.Link.Link.identity g.Li.Listener.ended g.Li.Listener.faults g.Do.Done.taken g.Do.Done.count g.Do.Done.served c.args.acceptor.now c.successor-job.new.acceptor c.replace.new.self _ c.successor-job.new.done _ false (goes_trans g.Li.Listener.given g.Li.Listener.left g.Li.Listener.rest g.Li.Link.Link.identity g.Li.Listener.ended g.Li.Listener.faults g.Do.Done.taken g.Do.Done.count g.Do.Done.served c.args.acceptor.now c.part.new.acceptor c.successor-job.new.acceptor _ c.args.done.now _ false (c.part.ensures.goes c.args.done.now (g.met.Do.Done.small c.args.done.now)) c.successor-job.ensures.goes) (λ ls. c.replace.ensures.acts ls c.successor-job.new.done)

pub returns-clause-crew : goal.returns-clause-crew
returns-clause-crew g c =
    crew_filled g.F.ServerServiceFactory.may_serve g.F.ServerServiceFactory.may_leave g.F.ServerServiceFactory.may_ready g.F.ServerServiceFactory.may_init g.F.ServerServiceFactory.may_make g.Li.Link.Link.identity c.args.factory.now c.args.listeners c.args.acceptor.now c.part.new.acceptor c.args.w c.args.running.now.items c.part.new.running.items c.in-Some.handed c.requires.crew c.requires.faulted c.requires.even (c.in-Some.ensures.parted c.args.done.now) c.requires.number.0 c.successor-job.new.acceptor c.replace.new.self c.successor-job.ensures.recalls c.replace.result c.replace.ensures.replaced c.replace.ensures.refused c.replace.ensures.parcels c.replace.ensures.notes c.settle.new.running.items c.in-Some-start_next.next c.settle.ensures c.successor-job.result c.successor-job.ensures.job c.in-Some-start_next.ensures.job

pub returns-clause-spare : goal.returns-clause-spare
returns-clause-spare g c =
    let kept = replaced_keeps c.args.w (core_of c.successor-job.new.acceptor) (core_of c.replace.new.self) c.replace.result c.replace.ensures.replaced c.replace.ensures.refused in
    same_total (core_of c.successor-job.new.acceptor) (core_of c.replace.new.self) _ kept.0 kept.1 c.successor-job.ensures.spare

pub returns-clause-rest : goal.returns-clause-rest
returns-clause-rest g c =
    rest_there g.F.ServerServiceFactory.may_serve g.F.ServerServiceFactory.may_leave g.F.ServerServiceFactory.may_ready g.F.ServerServiceFactory.may_init g.F.ServerServiceFactory.may_make g.Li.Link.Link.identity c.args.factory.now c.args.listeners c.args.acceptor.now c.part.new.acceptor c.args.w c.args.running.now.items c.part.new.running.items c.in-Some.handed c.requires.crew c.requires.faulted c.requires.even (c.in-Some.ensures.parted c.args.done.now) c.requires.number.0 c.successor-job.new.acceptor c.replace.new.self c.successor-job.ensures.recalls c.replace.ensures.rest

pub returns-clause-counts : goal.returns-clause-counts
returns-clause-counts g c =
    restarts_filled g.F.ServerServiceFactory.may_serve g.F.ServerServiceFactory.may_leave g.F.ServerServiceFactory.may_ready g.F.ServerServiceFactory.may_init g.F.ServerServiceFactory.may_make g.Li.Link.Link.identity c.args.factory.now c.args.listeners c.args.acceptor.now c.part.new.acceptor c.args.w c.args.running.now.items c.part.new.running.items c.in-Some.handed c.requires.crew c.requires.faulted c.requires.even (c.in-Some.ensures.parted c.args.done.now) (g.Sp.Spawner.starts c.args.spawner.now, g.Sp.Spawner.refusals c.args.spawner.now) (g.Sp.Spawner.starts c.start_next.new.spawner, g.Sp.Spawner.refusals c.start_next.new.spawner) c.in-Some-start_next.ensures.started.0

pub returns-clause-placed : goal.returns-clause-placed
returns-clause-placed g c =
    placed_filled g.F.ServerServiceFactory.may_serve g.F.ServerServiceFactory.may_leave g.F.ServerServiceFactory.may_ready g.F.ServerServiceFactory.may_init g.F.ServerServiceFactory.may_make g.Li.Link.Link.identity c.args.factory.now c.args.listeners c.args.acceptor.now c.part.new.acceptor c.args.w c.args.running.now.items c.part.new.running.items c.in-Some.handed c.requires.crew c.requires.faulted c.requires.even (c.in-Some.ensures.parted c.args.done.now) c.requires.number.0 c.successor-job.new.acceptor c.replace.new.self c.successor-job.ensures.recalls c.replace.result c.replace.ensures.replaced c.replace.ensures.refused c.replace.ensures.parcels c.replace.ensures.notes c.settle.new.running.items c.in-Some-start_next.next c.settle.ensures

pub returns-clause-retires : goal.returns-clause-retires
returns-clause-retires g c before calm so_far =
    retires_filled g.F.ServerServiceFactory.may_serve g.F.ServerServiceFactory.may_leave g.F.ServerServiceFactory.may_ready g.F.ServerServiceFactory.may_init g.F.ServerServiceFactory.may_make g.Li.Link.Link.identity c.args.factory.now c.args.listeners c.args.acceptor.now c.part.new.acceptor c.args.w c.args.running.now.items c.part.new.running.items c.in-Some.handed c.requires.crew c.requires.faulted c.requires.even (c.in-Some.ensures.parted c.args.done.now) c.requires.number.0 c.successor-job.new.acceptor c.replace.new.self c.successor-job.ensures.recalls c.replace.result c.replace.ensures.replaced c.replace.ensures.refused c.replace.ensures.parcels c.replace.ensures.notes c.settle.new.running.items c.in-Some-start_next.next c.settle.ensures before (g.Sp.Spawner.starts c.args.spawner.now, g.Sp.Spawner.refusals c.args.spawner.now) (g.Sp.Spawner.starts c.start_next.new.spawner, g.Sp.Spawner.refusals c.start_next.new.spawner) c.in-Some-start_next.ensures.started.0 c.in-Some-start_next.ensures.started.1 so_far

pub returns-clause-as_many : goal.returns-clause-as_many
returns-clause-as_many g c =
    ap length c.settle.ensures ∙ length-set c.part.new.running.items c.args.w _ ∙ ap length (c.in-Some.ensures.parted c.args.done.now).vacant ∙ length-set c.args.running.now.items c.args.w _

pub start_next-requires-clause-can : goal.start_next-requires-clause-can
start_next-requires-clause-can g c κs within =
    can_begin c.successor-job.new.acceptor c.args.w c.in-Some.handed c.args.listeners c.successor-job.result c.successor-job.ensures.job c.requires.number.1 c.requires.number.2

pub retire-requires-clause-number : goal.retire-requires-clause-number
retire-requires-clause-number g c =
    still_inside g.F.ServerServiceFactory.may_serve g.F.ServerServiceFactory.may_leave g.F.ServerServiceFactory.may_ready g.F.ServerServiceFactory.may_init g.F.ServerServiceFactory.may_make g.Li.Link.Link.identity c.args.factory.now c.args.listeners c.args.acceptor.now c.part.new.acceptor c.args.w c.args.running.now.items c.part.new.running.items c.in-Some.handed c.requires.crew c.requires.faulted c.requires.even (c.in-Some.ensures.parted c.args.done.now) c.successor-job.new.acceptor c.successor-job.ensures.recalls c.requires.number.0

pub replace-requires : goal.replace-requires
replace-requires g c = record {
  number = still_inside g.F.ServerServiceFactory.may_serve g.F.ServerServiceFactory.may_leave g.F.ServerServiceFactory.may_ready g.F.ServerServiceFactory.may_init g.F.ServerServiceFactory.may_make g.Li.Link.Link.identity c.args.factory.now c.args.listeners c.args.acceptor.now c.part.new.acceptor c.args.w c.args.running.now.items c.part.new.running.items c.in-Some.handed c.requires.crew c.requires.faulted c.requires.even (c.in-Some.ensures.parted c.args.done.now) c.successor-job.new.acceptor c.successor-job.ensures.recalls c.requires.number.0;
}

pub settle-requires-clause-number : goal.settle-requires-clause-number
settle-requires-clause-number g c κs within = has_place g.F.ServerServiceFactory.may_serve g.F.ServerServiceFactory.may_leave g.F.ServerServiceFactory.may_ready g.F.ServerServiceFactory.may_init g.F.ServerServiceFactory.may_make g.Li.Link.Link.identity c.args.factory.now c.args.listeners c.args.acceptor.now c.part.new.acceptor c.args.w c.args.running.now.items c.part.new.running.items c.in-Some.handed c.requires.crew c.requires.faulted c.requires.even (c.in-Some.ensures.parted c.args.done.now)

pub successor-job-requires-clause-spare : goal.successor-job-requires-clause-spare
successor-job-requires-clause-spare g c κs within = room_there g.F.ServerServiceFactory.may_serve g.F.ServerServiceFactory.may_leave g.F.ServerServiceFactory.may_ready g.F.ServerServiceFactory.may_init g.F.ServerServiceFactory.may_make g.Li.Link.Link.identity c.args.factory.now c.args.listeners c.args.acceptor.now c.part.new.acceptor c.args.w c.args.running.now.items c.part.new.running.items c.in-Some.handed c.requires.crew c.requires.faulted c.requires.even (c.in-Some.ensures.parted c.args.done.now) _ c.requires.spare
