use Rattle.std.proofs.Common.{refl}
use Rattle.service_core.specs.Counts.{Rose}
use Rattle.server.specs.Starting.{RoseBy}
use Rattle.server_program.specs.declared.refusal.Refusal.TheVariants.{NoWorker}
use Rattle.server_program.proofs.Saying.{says_summary, says_unmade}
use Rattle.server_program.proofs.program.generate_ending.Goals as goal

pub returns-in-Ok : goal.returns-in-Ok
returns-in-Ok g c = λ told. says_summary told told refl _ _ _ _ _ _ c.in-Ok.text c.in-Ok.ensures.started c.in-Ok.ensures.summary c.made.ensures.status c.made.ensures.text

pub returns-in-Err-NoWorker : goal.returns-in-Err-NoWorker
returns-in-Err-NoWorker g c = λ told. says_unmade told told refl (λ n. RoseBy n (g.Sp.Spawner.starts c.args.spawner.now) (g.Sp.Spawner.starts c.generate.new.spawner)) (Rose (g.Sp.Spawner.refusals c.args.spawner.now) (g.Sp.Spawner.refusals c.generate.new.spawner)) c.args.count c.args.seed _ _ NoWorker (rw c.in-Err-NoWorker.field-0-is at c.in-Err-NoWorker.ensures.refused) c.ending-in-Err-NoWorker.ensures
