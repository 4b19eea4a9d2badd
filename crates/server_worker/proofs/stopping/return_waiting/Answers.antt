use Rattle.std.proofs.Common.{◌∙◌, refl}
use Rattle.server_worker.proofs.StopSteps.{gives_none, gives_trans}
use Rattle.server_worker.proofs.stopping.return_waiting.Goals as goal

pub loop-init : goal.loop-init
loop-init g c = (gives_none _ _ _ refl refl refl refl refl refl refl refl refl, c.requires.sound)

pub loop-preserved : goal.loop-preserved
loop-preserved g c = (gives_trans _ c.loop.invariant.0 c.return_one.ensures.gives, c.return_one.ensures.sound)

pub return_one-requires : goal.return_one-requires
return_one-requires g c = record { stopped = c.loop.invariant.0.stopped ∙ c.requires.stopped; sound = c.loop.invariant.1 }

pub returns-clause-gives : goal.returns-clause-gives
returns-clause-gives g c = gives_trans _ c.loop.invariant.0 c.return_one.ensures.gives
