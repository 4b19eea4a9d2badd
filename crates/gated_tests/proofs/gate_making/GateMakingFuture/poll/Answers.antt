use Rattle.script_service.proofs.Making.{by_part_within}
use Rattle.gated_tests.proofs.gate_making.GateMakingFuture.poll.Goals as goal

pub returns-in-Pending-clause-same : goal.returns-in-Pending-clause-same
returns-in-Pending-clause-same g c = by_part_within _ _ _ c.in-Pending.ensures.polls.same
