use Rattle.std.proofs.Common.{◌∙◌, ◌++◌, ◌∷◌, [], ap, refl, rules}
use Rattle.server_worker.proofs.StopSteps.{gives_queued, gives_stray, sound_queued, sound_stray}
use Rattle.server_worker.proofs.stopping.return_one.Goals as goal

pub returns-in-Some-clause-sound : goal.returns-in-Some-clause-sound
returns-in-Some-clause-sound g c =
    sound_queued g.F.Factory.Service.Future.Future g.F.Factory.Service.Future.LinkHolder.may_stand (g.F.ServerServiceFactory.may_serve c.args.factory.now) (g.F.ServerServiceFactory.may_leave c.args.factory.now) (g.F.ServerServiceFactory.may_make c.args.factory.now) c.args.listeners c.args.hand.now _ c.in-Some.waiting refl refl refl c.requires.stopped c.requires.sound
    (c.push_back_reserved.ensures.items ∙ ap (λ n. c.args.hand.now.owed.items ++ n ∷ []) c.stopped.ensures) refl c.in-Some.ensures.items refl

pub returns-in-Some-clause-gives : goal.returns-in-Some-clause-gives
returns-in-Some-clause-gives g c =
    gives_queued g.L.Link.identity c.args.hand.now _ c.in-Some.waiting c.in-Some.ensures.items refl
    (c.push_back_reserved.ensures.items ∙ ap (λ n. c.args.hand.now.owed.items ++ n ∷ []) c.stopped.ensures) refl refl refl refl refl refl

pub returns-clause-sound : goal.returns-clause-sound
returns-clause-sound g c =
    sound_stray g.F.Factory.Service.Future.Future g.F.Factory.Service.Future.LinkHolder.may_stand (g.F.ServerServiceFactory.may_serve c.args.factory.now) (g.F.ServerServiceFactory.may_leave c.args.factory.now) (g.F.ServerServiceFactory.may_make c.args.factory.now) c.args.listeners c.args.hand.now _ c.in-Some-pop.waiting refl refl refl c.requires.stopped c.requires.sound
    (c.push_back_reserved-2.ensures.items ∙ ap (λ n. c.args.hand.now.owed.items ++ n ∷ []) c.stopped-2.ensures) refl (search rules) c.in-Some-pop.ensures.items

pub returns-clause-gives : goal.returns-clause-gives
returns-clause-gives g c =
    gives_stray g.L.Link.identity c.args.hand.now _ c.in-Some-pop.waiting (search rules) c.in-Some-pop.ensures.items
    (c.push_back_reserved-2.ensures.items ∙ ap (λ n. c.args.hand.now.owed.items ++ n ∷ []) c.stopped-2.ensures) refl refl refl refl refl refl
