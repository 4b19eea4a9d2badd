use Rattle.std.proofs.Common.{rules}
use Rattle.replaying.proofs.serving.factory_of.Goals as goal

pub returns-clause-cors : goal.returns-clause-cors
returns-clause-cors c = search rules
