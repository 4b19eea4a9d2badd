use Rattle.std.proofs.Common.{rules}
use Rattle.service_core.proofs.octets.Octets.push_all.Goals as goal

pub returns-clause-ok : goal.returns-clause-ok
returns-clause-ok c = search rules
