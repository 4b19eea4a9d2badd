use Rattle.std.proofs.Common.{refl}
use Rattle.service_core.proofs.watched.WatchedFuture.poll.Goals as goal

pub returns-in_default-clause-ready : goal.returns-in_default-clause-ready
returns-in_default-clause-ready g c = rw c.in_default.is refl
