use Rattle.server_core.specs.Core.{fresh}
use Rattle.server_core.proofs.Starts.{kept_fresh}
use Rattle.server_core.proofs.RunSteps.{keeps, keeps_all}
use Rattle.server_core.proofs.laws.balance_is_kept.Goals as goal

pub returns-clause-step : goal.returns-clause-step
returns-clause-step c = keeps

pub returns-clause-all : goal.returns-clause-all
returns-clause-all c = λ workers listeners events few allowed. keeps_all (fresh workers listeners) events (kept_fresh workers listeners few) allowed
