use Rattle.std.proofs.Common.{sym, ◌∙◌}
use Rattle.std.proofs.lemmas.Bool.{eq-eqb, ne_eqb}
use Rattle.http_plain.proofs.TokenSteps.{expected, unexpected}
use Rattle.http_plain.proofs.tokens.expects.Goals as goal

pub returns-then-minor-ne1 : goal.returns-then-minor-ne1
returns-then-minor-ne1 c = unexpected c.args.head.now (ne_eqb c.args.head.now.minor 1 (λ e. c.if-minor-ne1.true (c.minor.ensures ∙ e)))

pub returns : goal.returns
returns c =
    c.some_expects.ensures
    ∙ expected c.args.head.now c.headers.result.now c.in_ok-fields.fields.items c.deref.result.now c.headers.ensures c.deref.ensures.value
    (eq-eqb c.args.head.now.minor 1 (sym c.minor.ensures ∙ c.if-minor-ne1.false)) c.in_ok-fields.ensures
