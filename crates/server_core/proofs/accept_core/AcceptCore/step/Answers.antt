use Rattle.std.proofs.Common.{length, ap, ◌∙◌, subst, sym}
use Rattle.server_core.specs.Core.{IsKept}
use Rattle.server_core.proofs.RunSteps.{keeps, same_workers, same_listeners}
use Rattle.server_core.proofs.accept_core.AcceptCore.step.Goals as goal

pub returns-clause-workers : goal.returns-clause-workers
returns-clause-workers c = ap (λ s. length s.out) c.carry_out.ensures ∙ same_workers c.args.self.now c.args.event

pub returns-clause-listeners : goal.returns-clause-listeners
returns-clause-listeners c = ap (λ s. length s.ended) c.carry_out.ensures ∙ same_listeners c.args.self.now c.args.event

pub returns-clause-kept : goal.returns-clause-kept
returns-clause-kept c =
    let kept = subst IsKept c.self.view_is c.self.invariant in
    subst IsKept (sym c.carry_out.ensures) (keeps c.args.self.now c.args.event kept c.requires)
