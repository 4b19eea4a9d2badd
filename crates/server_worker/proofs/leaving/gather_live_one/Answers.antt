use Rattle.std.proofs.Common.{refl}
use Rattle.rtrb.specs.Ring.{received}
use Rattle.server_worker.specs.Sound.{Lives}
use Rattle.server_worker.proofs.LeaveSteps.{gathers_live, last_of, rest_of}
use Rattle.server_worker.proofs.leaving.gather_live_one.Goals as goal

pub let_go-requires : goal.let_go-requires
let_go-requires g c = record { serves = (last_of (Lives g.F.Factory.Service.Future.Future g.F.Factory.Service.Future.LinkHolder.may_stand (g.F.ServerServiceFactory.may_serve c.args.factory.now) (g.F.ServerServiceFactory.may_leave c.args.factory.now) (received c.args.hand.now.parcels)) _ _ c.in-Some.live c.in-Some.ensures.items c.requires.live).1 }

pub returns-clause-live : goal.returns-clause-live
returns-clause-live g c = rest_of (Lives g.F.Factory.Service.Future.Future g.F.Factory.Service.Future.LinkHolder.may_stand (g.F.ServerServiceFactory.may_serve c.args.factory.now) (g.F.ServerServiceFactory.may_leave c.args.factory.now) (received c.args.hand.now.parcels)) _ _ c.in-Some.live c.in-Some.ensures.items c.requires.live

pub returns-clause-gathers : goal.returns-clause-gathers
returns-clause-gathers g c = λ first so. gathers_live _ _ first c.args.hand.now _ so refl refl refl refl _ c.in-Some.live c.push_reserved.ensures.items c.in-Some.ensures.items
    c.let_go.ensures.serial c.let_go.ensures.token c.let_go.ensures.place c.let_go.ensures.identity c.let_go.ensures.leaves
    (last_of (Lives g.F.Factory.Service.Future.Future g.F.Factory.Service.Future.LinkHolder.may_stand (g.F.ServerServiceFactory.may_serve c.args.factory.now) (g.F.ServerServiceFactory.may_leave c.args.factory.now) (received c.args.hand.now.parcels)) _ _ c.in-Some.live c.in-Some.ensures.items c.requires.live).0
