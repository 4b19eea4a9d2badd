use Rattle.service_core.specs.Counts.{Rose}
use Rattle.server_program.proofs.Saying.{unserved_by}
use Rattle.server_program.proofs.program.report_of.Goals as goal

pub returns-in-Err-clause-unserved : goal.returns-in-Err-clause-unserved
returns-in-Err-clause-unserved g c = unserved_by (Rose (g.Sp.Spawner.refusals c.args.spawner.now) (g.Sp.Spawner.refusals c.args.spawner.now)) c.args.bytes.now c.in-Err.refusal c.in-Err.ensures.unserved
