use Rattle.std.proofs.Common.{◌∙◌, sym}
use Rattle.http1_plain.proofs.MarkSteps.{unmarked_name}
use Rattle.http1_plain.proofs.names.came_before.Goals as goal

pub returns-else-set-clause-before : goal.returns-else-set-clause-before
returns-else-set-clause-before c =
    c.if-set.false ∙ sym (unmarked_name c.args.marks.now c.args.headers.now c.args.name.now c.requires (sym c.set.ensures.was ∙ c.if-set.false))
