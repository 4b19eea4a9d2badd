use Rattle.std.proofs.Common.{◌≡◌, subst}
use Rattle.std.specs.Prelude.{IfOk}
use Rattle.http_plain.proofs.TokenSteps.{listed}
use Rattle.http_plain.proofs.tokens.lists.Goals as goal

pub returns : goal.returns
returns c =
    subst (λ value. IfOk c.some_part_is.result (λ found. found ≡ value))
    (listed c.args.token.now c.args.value.now c.in_ok-parts.parts.items c.deref.result.now c.deref.ensures.value c.in_ok-parts.ensures)
    c.some_part_is.ensures
