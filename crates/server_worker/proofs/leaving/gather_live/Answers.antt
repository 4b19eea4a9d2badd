use Rattle.std.proofs.Common.{◌∙◌}
use Rattle.server_worker.proofs.leaving.gather_live.Goals as goal

pub loop-preserved : goal.loop-preserved
loop-preserved g c = (λ first so. c.gather_live_one.ensures.gathers first (c.loop.invariant.0 first so), c.gather_live_one.ensures.queue ∙ c.loop.invariant.1, c.gather_live_one.ensures.live)

pub returns-clause-gathers : goal.returns-clause-gathers
returns-clause-gathers g c = λ first so. c.gather_live_one.ensures.gathers first (c.loop.invariant.0 first so)
