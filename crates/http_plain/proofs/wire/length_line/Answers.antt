use Rattle.std.proofs.Common.{◌≡◌, sym, ◌∙◌, subst}
use Rattle.std.specs.Prelude.{IfOk}
use Rattle.http_plain.proofs.WireSteps.{no_length, some_length}
use Rattle.http_plain.proofs.wire.length_line.Goals as goal

pub returns-then-has_no_length : goal.returns-then-has_no_length
returns-then-has_no_length c =
    c.new.ensures ∙ no_length c.args.status c.args.size (sym c.has_no_length.ensures ∙ c.if-has_no_length.true)

pub returns : goal.returns
returns c =
    subst (λ text. IfOk c.of.result (λ line. line ≡ text))
    (c.as_bytes.ensures.value ∙ c.in_ok-line.ensures.ok
    ∙ some_length c.args.status c.args.size (sym c.has_no_length.ensures ∙ c.if-has_no_length.false))
    c.of.ensures
