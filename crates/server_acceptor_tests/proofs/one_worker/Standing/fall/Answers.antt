use Rattle.std.proofs.Common.{◌∙◌, ◌∷◌, [], ap}
use Rattle.rtrb.specs.Ring.{sent}
use Rattle.server_acceptor.specs.Acceptors.{notes_of}
use Rattle.server_acceptor_tests.proofs.OneRing.{only_first, all_came, still_came}
use Rattle.std.proofs.Common.{◌++◌, rules}
use Rattle.server_acceptor.specs.Accepting.{received_at}
use Rattle.server_jobs.specs.declared.note.Note.TheVariants.{Faulted}
use Rattle.server_acceptor_tests.proofs.one_worker.Standing.fall.Goals as goal

pub invariant_of-result-clause-all : goal.invariant_of-result-clause-all
invariant_of-result-clause-all c =
    let e = only_first c.fault.new.self.acceptor c.turn.new.self.acceptor _ (c.turn.ensures.ended _ c.in-WorkerEnded.is) in
    let told = c.fault.ensures.told (search rules) in
    all_came (notes_of c.part-here.result.acceptor) (sent c.part-here.result.notes) c.part-here.ensures.all
    (c.part-here.ensures.told ∙ ap (λ n. sent n) c.turn.ensures.notes ∙ told ∙ ap (λ ns. ns ++ Faulted ∷ []) c.args.self.told)
    (still_came (received_at (notes_of c.fault.new.self.acceptor) 0) e.more (received_at (notes_of c.part-here.result.acceptor) 0) (c.part-here.ensures.came ∙ e.came) e.faulted)
