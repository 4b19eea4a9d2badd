use Rattle.std.proofs.Common.{rules}
use Rattle.service_combine.proofs.when_ready.WhenReadyFuture.poll.Goals as goal

pub returns-in-Pending-clause-value : goal.returns-in-Pending-clause-value
returns-in-Pending-clause-value g c = search rules
