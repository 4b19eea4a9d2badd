use Rattle.server_edge_tests.proofs.CarrySteps.{carries_more}
use Rattle.server_edge_tests.proofs.ferry.carry_all.Goals as goal

pub loop-preserved-in-Carried : goal.loop-preserved-in-Carried
loop-preserved-in-Carried g c = carries_more _ _ _ _ _ _ _ c.loop.invariant c.carry.ensures

pub loop-preserved : goal.loop-preserved
loop-preserved g c = carries_more _ _ _ _ _ _ _ c.loop.invariant c.carry.ensures

pub returns-in-Stopped : goal.returns-in-Stopped
returns-in-Stopped g c = carries_more _ _ _ _ _ _ _ c.loop.invariant c.carry.ensures
