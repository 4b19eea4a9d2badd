use Rattle.server_core.proofs.TakenTurns.{takes_turn}
use Rattle.server_core.proofs.laws.workers_take_turns.Goals as goal

pub returns : goal.returns
returns c = takes_turn
