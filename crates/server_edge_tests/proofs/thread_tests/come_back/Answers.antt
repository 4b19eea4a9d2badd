use Rattle.server_edge_tests.proofs.LineSteps.{kept_line}
use Rattle.server_edge_tests.proofs.thread_tests.come_back.Goals as goal

pub lands-requires : goal.lands-requires
lands-requires g c = kept_line _ _ _ _ _ c.cross.ensures (rw c.in-Some.is at c.in_ok-started.ensures)
