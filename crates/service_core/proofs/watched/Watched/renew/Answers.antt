use Rattle.std.proofs.Common.{refl}
use Rattle.service_core.proofs.watched.Watched.renew.Goals as goal

pub returns-clause-count : goal.returns-clause-count
returns-clause-count g c = refl
