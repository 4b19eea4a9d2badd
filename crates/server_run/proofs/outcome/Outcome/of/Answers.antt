use Rattle.std.proofs.Common.{refl}
use Rattle.server_run.proofs.outcome.Outcome.of.Goals as goal

pub returns-in-Memory : goal.returns-in-Memory
returns-in-Memory c = rw c.in-Memory.is refl
