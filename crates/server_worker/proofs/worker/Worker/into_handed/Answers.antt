use Rattle.std.proofs.Common.{◌≡◌, refl, sym, rules, length, vec_len}
use Rattle.std.specs.VecDeque.{deque_len}
use Rattle.server_worker.proofs.LeaveSteps.{all_leave, gathered, gathers_unqueued, lives_still}
use Rattle.server_worker.proofs.worker.Worker.into_handed.Goals as goal

pub gather_live-requires : goal.gather_live-requires
gather_live-requires g c = record {
  live = lives_still g.F.Factory.Service.Future.Future g.F.Factory.Service.Future.LinkHolder.may_stand (g.F.ServerServiceFactory.may_serve c.args.self.factory) (g.F.ServerServiceFactory.may_leave c.args.self.factory)
      c.args.self.hand c.unqueue.new.self c.unqueue.ensures.unqueues.parcels c.unqueue.ensures.unqueues.live c.requires.sound.live;
}

pub returns-clause-leaves : goal.returns-clause-leaves
returns-clause-leaves g c = gathered _ _ c.args.self.hand _ _ (c.gather_live.ensures.gathers _ (gathers_unqueued _ _ c.args.self.hand _ c.unqueue.ensures.unqueues
    (λ i d inside. (c.requires.sound.strays i d inside).1) (λ i d inside. (c.requires.sound.queue i d inside).1)))
    (search rules) c.gather_live.ensures.rest refl refl refl refl

pub returns-clause-held : goal.returns-clause-held
returns-clause-held g c =
    let live : length c.args.self.hand.live.items ≡ vec_len c.args.self.hand.live = search rules in
    let queue : length c.args.self.hand.queue.items ≡ deque_len c.args.self.hand.queue = search rules in
    let strays : length c.args.self.hand.strays.items ≡ vec_len c.args.self.hand.strays = search rules in
    rw (sym live, sym queue, sym strays) (all_leave _ _ c.args.self.hand _ (returns-clause-leaves g c))
