use Rattle.std.proofs.Common.{◌≡◌, take, subst}
use Rattle.std.proofs.lemmas.List.{take_rest}
use Rattle.http1_grammar.specs.Lines.{line_text}
use Rattle.http_plain.proofs.PlainSteps.{text_more}
use Rattle.http_plain.proofs.lines.+text_len.Goals as goal

pub returns-in-len1-up-clause-value : goal.returns-in-len1-up-clause-value
returns-in-len1-up-clause-value t c =
    text_more c.args.line.now c.text_len.result c.in-len1-up.len_at_least
    (subst (λ rest. take c.text_len.result rest ≡ line_text rest) (take_rest c.args.line.now 1) c.text_len.ensures.value)
