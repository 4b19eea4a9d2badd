use Rattle.std.proofs.Common.{rules, refl}
use Rattle.http_flow.proofs.upgrade_handler_future.UpgradeHandlerFutureFuture.poll.Goals as goal

pub returns-clause-value : goal.returns-clause-value
returns-clause-value g c = record { value = c.unwrap.result; is = search rules; holds = refl }
