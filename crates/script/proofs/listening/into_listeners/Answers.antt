use Rattle.std.proofs.Common.{ap, arith, length}
use Rattle.script.proofs.Offered.{all_made, one_made}
use Rattle.script.proofs.listening.into_listeners.Goals as goal

pub loop-listener-preserved : goal.loop-listener-preserved
loop-listener-preserved c =
    let so_far = c.loop-listener.invariant in
    let first = c.in-Some.ensures.steps.0 in
    let pushed = c.push_reserved.ensures in
    record {
      can_next = tt;
      is_finite = tt;
      left = rw pushed.items (one_made _ _ _ _ so_far.left c.in-Some.listener c.in_ok-into_listener.field-0 _ first c.in_ok-into_listener.ensures);
      room = let one = ap length first in rw (pushed.len, pushed.capacity) (omega (arith, one, so_far.room));
    }

pub returns-clause-offer : goal.returns-clause-offer
returns-clause-offer c =
    let over = c.in-None.ensures.steps in
    all_made _ _ _ _ c.loop-listener.invariant.left (omega (arith, over.0, c.loop-listener.listener-iterator.rest.ok))
