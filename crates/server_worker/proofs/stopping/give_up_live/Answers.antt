use Rattle.std.proofs.Common.{◌∙◌, refl}
use Rattle.server_worker.proofs.StopSteps.{goes_none, goes_trans}
use Rattle.server_worker.proofs.stopping.give_up_live.Goals as goal

pub loop-init : goal.loop-init
loop-init g c = (goes_none _ _ _ refl refl refl refl refl refl refl refl refl, c.requires.sound)

pub loop-preserved : goal.loop-preserved
loop-preserved g c = (goes_trans _ c.loop.invariant.0 c.give_up_one.ensures.goes, c.give_up_one.ensures.sound)

pub give_up_one-requires : goal.give_up_one-requires
give_up_one-requires g c = record { stopped = c.loop.invariant.0.stopped ∙ c.requires.stopped; forced = c.loop.invariant.0.forced ∙ c.requires.forced; sound = c.loop.invariant.1 }

pub returns-clause-goes : goal.returns-clause-goes
returns-clause-goes g c = goes_trans _ c.loop.invariant.0 c.give_up_one.ensures.goes
