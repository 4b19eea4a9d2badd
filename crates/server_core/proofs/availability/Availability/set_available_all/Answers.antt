use Rattle.std.proofs.Common.{sym, ap, ◌∙◌, get_or, take}
use Rattle.std.specs.FinSet as set
use Rattle.std.proofs.lemmas.List.{take_more}
use Rattle.server_core.proofs.Marks.{union_empty, union_push}
use Rattle.server_core.proofs.availability.Availability.set_available_all.Goals as goal

pub loop-worker-init : goal.loop-worker-init
loop-worker-init c = sym (union_empty _)

pub loop-worker-preserved : goal.loop-worker-preserved
loop-worker-preserved c =
    c.set_available.ensures
    ∙ ap (λ s. set.insert s (get_or c.args.workers.now c.loop-worker.worker-index 0)) c.loop-worker.invariant
    ∙ union_push c.args.self.now (take c.loop-worker.worker-index c.args.workers.now) (get_or c.args.workers.now c.loop-worker.worker-index 0)
    ∙ ap (λ ws. set.union c.args.self.now (set.from_list ws)) (sym (take_more c.args.workers.now c.loop-worker.worker-index 0 c.loop-worker-test.true))
