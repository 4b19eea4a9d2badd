use Rattle.server_core.proofs.Starts.{kept_fresh}
use Rattle.server_core.proofs.accept_core.AcceptCore.new.Goals as goal

pub invariant_of-result : goal.invariant_of-result
invariant_of-result c =
    rw (c.none_ended.ensures, c.zeros.ensures, c.new.ensures, c.zeros-2.ensures, c.default.ensures)
    (kept_fresh c.args.workers c.args.listeners c.requires.most_workers)

pub returns-clause-kept : goal.returns-clause-kept
returns-clause-kept c =
    rw (c.none_ended.ensures, c.zeros.ensures, c.new.ensures, c.zeros-2.ensures, c.default.ensures)
    (kept_fresh c.args.workers c.args.listeners c.requires.most_workers)
