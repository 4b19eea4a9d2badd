use Rattle.server_core.proofs.RunSteps.{none_after_stop, none_after_pause}
use Rattle.server_core.proofs.laws.none_is_taken_meanwhile.Goals as goal

pub returns-clause-stopped : goal.returns-clause-stopped
returns-clause-stopped c = none_after_stop

pub returns-clause-paused : goal.returns-clause-paused
returns-clause-paused c = none_after_pause
