use Rattle.std.proofs.Common.{◌∙◌, ◌++◌, ◌∷◌, [], ap, refl}
use Rattle.rtrb.specs.Ring.{received}
use Rattle.server_worker.specs.Sound.{Lives}
use Rattle.server_worker.proofs.LeaveSteps.{last_of}
use Rattle.server_worker.proofs.StopSteps.{goes_one, sound_let_go}
use Rattle.server_worker.proofs.stopping.give_up_one.Goals as goal

pub let_go-requires : goal.let_go-requires
let_go-requires g c = record { serves = (last_of (Lives g.F.Factory.Service.Future.Future g.F.Factory.Service.Future.LinkHolder.may_stand (g.F.ServerServiceFactory.may_serve c.args.factory.now) (g.F.ServerServiceFactory.may_leave c.args.factory.now) (received c.args.hand.now.parcels)) _ _ c.in-Some.live c.in-Some.ensures.items c.requires.sound.live).1 }

pub returns-clause-sound : goal.returns-clause-sound
returns-clause-sound g c =
    sound_let_go g.F.Factory.Service.Future.Future g.F.Factory.Service.Future.LinkHolder.may_stand (g.F.ServerServiceFactory.may_serve c.args.factory.now) (g.F.ServerServiceFactory.may_leave c.args.factory.now) (g.F.ServerServiceFactory.may_make c.args.factory.now) c.args.listeners c.args.hand.now _ c.let_go.result refl refl refl c.requires.stopped c.requires.sound
    c.in-Some.live (c.push_back_reserved.ensures.items ∙ ap (λ n. c.args.hand.now.owed.items ++ n ∷ []) c.stopped.ensures) c.in-Some.ensures.items refl refl c.requires.forced
    c.let_go.ensures.serial c.let_go.ensures.token c.let_go.ensures.place c.let_go.ensures.leaves

pub returns-clause-goes : goal.returns-clause-goes
returns-clause-goes g c =
    goes_one g.L.Link.identity c.args.hand.now _ c.let_go.result c.in-Some.live c.in-Some.ensures.items (c.push_back_reserved.ensures.items ∙ ap (λ n. c.args.hand.now.owed.items ++ n ∷ []) c.stopped.ensures) refl refl refl refl refl refl refl
    c.let_go.ensures.serial c.let_go.ensures.token c.let_go.ensures.place c.let_go.ensures.identity
