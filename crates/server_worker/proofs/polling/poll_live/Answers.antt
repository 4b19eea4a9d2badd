use Rattle.std.proofs.Common.{refl}
use Rattle.server_worker.proofs.DueSteps.{moved_sound, polled_due, same_moved, same_moves}
use Rattle.server_worker.proofs.polling.poll_live.Goals as goal

pub poll_from-requires-clause-sound : goal.poll_from-requires-clause-sound
poll_from-requires-clause-sound g c = moved_sound g.F.Factory.Service.Future.Future g.F.Factory.Service.Future.LinkHolder.may_stand (g.F.ServerServiceFactory.may_serve c.args.factory.now) (g.F.ServerServiceFactory.may_leave c.args.factory.now) (g.F.ServerServiceFactory.may_make c.args.factory.now) c.args.listeners c.args.hand.now _ (same_moved c.args.hand.now c.call_up.new.self _ c.call_up.ensures.moves refl refl refl refl refl refl refl refl refl) c.requires.sound

pub returns-clause-polls : goal.returns-clause-polls
returns-clause-polls g c = polled_due g.F.Factory.Service.Future.Future g.F.Factory.Service.Future.LinkHolder.may_stand (g.F.ServerServiceFactory.may_serve c.args.factory.now) (g.F.ServerServiceFactory.may_leave c.args.factory.now) (g.F.ServerServiceFactory.may_make c.args.factory.now) c.args.listeners g.L.Link.identity c.args.hand.now _ c.poll_from.new.hand c.settle.new.self c.call_up.new.self.resting c.args.all c.args.news.now
    (same_moved c.args.hand.now c.call_up.new.self _ c.call_up.ensures.moves refl refl refl refl refl refl refl refl refl) c.call_up.ensures.all c.call_up.new.self.waited c.call_up.ensures.unheard
    c.poll_from.ensures.polls c.poll_from.ensures.front
    (same_moves c.poll_from.new.hand _ c.settle.new.self c.settle.ensures refl refl refl refl refl refl refl refl refl)
