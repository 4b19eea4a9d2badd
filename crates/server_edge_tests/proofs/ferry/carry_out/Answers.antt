use Rattle.server_edge_tests.proofs.CarrySteps.{accounts_of}
use Rattle.server_edge_tests.proofs.ferry.carry_out.Goals as goal

pub returns-in-Ok : goal.returns-in-Ok
returns-in-Ok g c =
    accounts_of _ _ _ c.landed.result (rw (c.landed.ensures.ends.0, c.landed.ensures.ends.1) c.carry_all.ensures) c.landed.ensures.empty.0 c.landed.ensures.empty.1
