-- One more service is replaced where it is available.
use Rattle.std.proofs.Common.{◌∙◌, sym}
use Rattle.worker_core.proofs.WorkerCoreSteps.{replaced_no, replaced_yes}
use Rattle.worker_core.proofs.worker_core.replace_available.Goals as goal
use Rattle.worker_core.proofs.worker_core.replace_available.Goals.{then-is_available, else-is_available}

pub loop-service-preserved : goal.loop-service-preserved
loop-service-preserved c =
    elim c.if-is_available.branch [
      | then-is_available w ↦ w.services-is ∙ replaced_yes c.args.status c.args.services.now c.loop-service.services c.loop-service.service-index _ c.loop-service-test.true c.loop-service.invariant (sym c.is_available.ensures ∙ w.if-is_available.true)
      | else-is_available w ↦ w.services-is ∙ replaced_no c.args.status c.args.services.now c.loop-service.services c.loop-service.service-index _ c.loop-service-test.true c.loop-service.invariant (sym c.is_available.ensures ∙ w.if-is_available.false)
    ]
