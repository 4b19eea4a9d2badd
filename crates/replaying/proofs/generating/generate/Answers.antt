use Rattle.std.proofs.Common.{subst}
use Rattle.script.specs.Script.{Plan}
use Rattle.service_core.specs.Counts.{Rose}
use Rattle.server_run.specs.contracts.memory_link.MemoryLinkLink.TheImpl.{ghosts}
use Rattle.replaying.specs.Running.{Runs}
use Rattle.replaying.proofs.Made.{ungenerated}
use Rattle.replaying.proofs.Summed.{summed}
use Rattle.replaying.proofs.generating.generate.Goals as goal

pub returns-in-Err-clause-refused : goal.returns-in-Err-clause-refused
returns-in-Err-clause-refused g c =
    ungenerated c.args.count c.args.seed _ c.in_ok-script.ensures.plan (Rose (g.Sp.Spawner.refusals c.args.spawner.now) (g.Sp.Spawner.refusals c.serve_script.new.spawner)) c.in-Err.error c.in-Err.ensures.refused

pub returns-in_ok-summary_text-in-Ok-clause-summary : goal.returns-in_ok-summary_text-in-Ok-clause-summary
returns-in_ok-summary_text-in-Ok-clause-summary g c =
    let runs = subst (λ (p : Plan). Runs ghosts p c.in-Ok.run'.done.entries.items c.in-Ok.run'.report) c.in_ok-script.ensures.plan c.in-Ok.ensures.runs in
    summed c.args.count c.args.seed c.in-Ok.run'.done.entries.items c.in-Ok.run'.report runs _ (rw (c.entries.ensures, c.in_ok-script.ensures.requests) at c.in_ok-summary_text-in-Ok.ensures)
