use Rattle.server_edge_tests.proofs.LineSteps.{kept_line}
use Rattle.server_edge_tests.proofs.lines.lands.Goals as goal

pub join-joined-requires-after_bounds : goal.join-joined-requires-after_bounds
join-joined-requires-after_bounds g c κs lives = kept_line _ _ _ _ _ c.stop.ensures c.requires
