use Rattle.std.proofs.Common.{rules}
use Rattle.server_worker.proofs.BeginSteps.{each_push, fits_push}
use Rattle.server_worker.proofs.beginning.begin_all.Goals as goal

pub loop-token-preserved : goal.loop-token-preserved
loop-token-preserved g c =
    let so_far = c.loop-token.invariant in
    let it = c.in_ok-services.ensures in (
      search rules,
      search rules,
      search rules,
      search rules,
      rw c.push_reserved-in-loop-token.ensures.items (each_push _ c.loop-token.slots.items c.in_ok-services.slot c.loop-token.token so_far.0 so_far.4 it.slot),
      rw c.push_reserved-in-loop-token.ensures.items (fits_push c.loop-token.slots.items c.in_ok-services.slot so_far.5 it.making),
      rw c.push_reserved.ensures.items (each_push _ c.loop-token.factories.items c.in_ok-services.services c.loop-token.token so_far.1 so_far.6 it.creates),
    )
