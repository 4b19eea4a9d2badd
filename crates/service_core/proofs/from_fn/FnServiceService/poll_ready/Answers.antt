use Rattle.std.proofs.Common.{refl}
use Rattle.service_core.proofs.from_fn.FnServiceService.poll_ready.Goals as goal

pub returns-clause-answer : goal.returns-clause-answer
returns-clause-answer g c = refl
