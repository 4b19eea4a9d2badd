use Rattle.std.proofs.Common.{[]}
use Rattle.server_core.specs.Core.{fresh}
use Rattle.server_core.proofs.Ledgers.{starts, runs_on, leads_further, all_go_on, step_moves}
use Rattle.server_core.proofs.laws.each_connection_is_in_one_place.Goals as goal

pub returns-clause-counted : goal.returns-clause-counted
returns-clause-counted c = λ workers listeners events ledger allowed leads. runs_on (fresh workers listeners) events [] ledger allowed leads (starts workers listeners)

pub returns-clause-leads_on : goal.returns-clause-leads_on
returns-clause-leads_on c = leads_further

pub returns-clause-goes_on : goal.returns-clause-goes_on
returns-clause-goes_on c = all_go_on

pub returns-clause-one_moves : goal.returns-clause-one_moves
returns-clause-one_moves c = step_moves
