use Rattle.std.proofs.Common.{◌≡◌, subst}
use Rattle.std.specs.Prelude.{IfOk}
use Rattle.http_plain.proofs.TokenSteps.{named}
use Rattle.http_plain.proofs.tokens.names_token.Goals as goal

pub returns : goal.returns
returns c =
    subst (λ value. IfOk c.some_lists.result (λ found. found ≡ value))
    (named c.args.head.now c.headers.result.now c.in_ok-fields.fields.items c.deref.result.now c.headers.ensures c.deref.ensures.value
    c.args.token.now c.in_ok-fields.ensures)
    c.some_lists.ensures
