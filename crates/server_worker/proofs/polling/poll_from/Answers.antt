use Rattle.std.proofs.Common.{◌≡◌, ◌∙◌, ◌<◌, ◌+◌, ◌-◌, take, subst, arith, refl, rules}
use Rattle.server_worker.specs.Polled.{PolledFrom}
use Rattle.server_worker.proofs.Places.{front_less}
use Rattle.server_worker.proofs.PollSteps.{polled_none}
use Rattle.server_worker.proofs.polling.poll_from.Goals as goal

pub loop-at-init : goal.loop-at-init
loop-at-init g c = (λ fact holds. holds, polled_none _ _ _ _ _ _ _ _ _ (search rules) c.requires.sound, c.requires.none_rest, refl, search rules, refl)

pub loop-at-preserved : goal.loop-at-preserved
loop-at-preserved g c =
    let above : c.args.from < c.loop-at.at = search rules in
    let one : c.loop-at.at ≡ (c.loop-at.at - 1) + 1 = omega (arith, above) in
    let front : take ((c.loop-at.at - 1) + 1) c.loop-at.hand.live.items ≡ take ((c.loop-at.at - 1) + 1) c.args.hand.now.live.items = subst (λ k. take k c.loop-at.hand.live.items ≡ take k c.args.hand.now.live.items) one c.loop-at.invariant.3 in (
      λ fact holds. c.poll_at.ensures.kept fact (c.loop-at.invariant.0 fact holds),
      c.poll_at.ensures.polls c.args.hand.now (subst (PolledFrom _ _ _ _ _ _ _ c.args.hand.now c.loop-at.hand) one c.loop-at.invariant.1),
      c.poll_at.ensures.none_rest,
      c.poll_at.ensures.front ∙ front_less (c.loop-at.at - 1) c.loop-at.hand.live.items c.args.hand.now.live.items front,
      omega (arith, above),
      c.poll_at.ensures.berths ∙ c.loop-at.invariant.5,
    )
