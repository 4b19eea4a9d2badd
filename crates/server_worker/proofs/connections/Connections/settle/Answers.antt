use Rattle.std.proofs.Common.{rules}
use Rattle.server_worker.proofs.DueSteps.{moved_none, moved_trans}
use Rattle.server_worker.proofs.connections.Connections.settle.Goals as goal

pub loop-at-init : goal.loop-at-init
loop-at-init g c = (moved_none _, search rules, search rules)

pub loop-at-preserved : goal.loop-at-preserved
loop-at-preserved g c = (moved_trans c.loop-at.invariant.0 c.settle_at.ensures.moves, search rules, search rules)
