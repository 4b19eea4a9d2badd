use Rattle.std.proofs.Common.{◌≡◌, ◌<◌, length, take, refl, rules, subst}
use Rattle.server_worker.specs.Waited.{NoneWaitsForAny}
use Rattle.server_worker.proofs.BerthSteps.{heard_all, heard_more, heard_none}
use Rattle.server_worker.proofs.DueSteps.{moved_none, moved_trans}
use Rattle.server_worker.proofs.connections.Connections.wake_each.Goals as goal

pub loop-at-init : goal.loop-at-init
loop-at-init g c = (moved_none _, heard_none c.args.slots.now (take c.args.self.now.resting c.args.self.now.live.items), search rules)

pub loop-at-preserved : goal.loop-at-preserved
loop-at-preserved g c =
    let inside : c.loop-at.at < length c.args.slots.now = search rules in (
      moved_trans c.loop-at.invariant.0 c.wake.ensures.moves,
      heard_more c.args.slots.now c.loop-at.at _ 0 (take c.wake.new.self.resting c.wake.new.self.live.items) (take c.loop-at.self.resting c.loop-at.self.live.items) inside refl c.loop-at.invariant.1 c.wake.ensures.among c.wake.ensures.heard,
      c.loop-at.invariant.2,
    )

pub returns-clause-unheard : goal.returns-clause-unheard
returns-clause-unheard g c =
    let whole : c.loop-at.at ≡ length c.args.slots.now = search rules in
    heard_all c.args.slots.now (take c.loop-at.self.resting c.loop-at.self.live.items)
    (subst (λ n. NoneWaitsForAny (take n c.args.slots.now) (take c.loop-at.self.resting c.loop-at.self.live.items)) whole c.loop-at.invariant.1)
