use Rattle.server_worker.proofs.ChangeSteps.{twice}
use Rattle.server_worker.proofs.laws.a_service_changes_at_most_twice_a_turn.Goals as goal

pub returns : goal.returns
returns c w checks all token = twice checks w token all
