use Rattle.std.proofs.Common.{refl}
use Rattle.server_worker.proofs.AdmitSteps.{admits_none, admits_trans}
use Rattle.server_worker.proofs.admitting.admit.Goals as goal

pub loop-init : goal.loop-init
loop-init g c = (admits_none _ _ _ refl refl refl refl refl refl refl refl refl, c.requires.sound)

pub loop-preserved : goal.loop-preserved
loop-preserved g c = (admits_trans _ c.loop.invariant.0 c.admit_one.ensures.admits, c.admit_one.ensures.sound)

pub returns-clause-admits : goal.returns-clause-admits
returns-clause-admits g c = admits_trans _ c.loop.invariant.0 c.admit_one.ensures.admits
