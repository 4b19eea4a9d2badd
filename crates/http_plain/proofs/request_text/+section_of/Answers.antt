use Rattle.std.proofs.Common.{Some, sym, ap, ◌∙◌}
use Rattle.std.specs.Option.{option_map}
use Rattle.std.proofs.lemmas.List.{take_rest}
use Rattle.http1_grammar.specs.RequestText.{section_of}
use Rattle.http_plain.specs.HandedOn.{headers_of}
use Rattle.http_plain.proofs.PlainSteps.{section_short, section_more, seen}
use Rattle.http_plain.proofs.request_text.+section_of.Goals as goal

pub returns-in-empty : goal.returns-in-empty
returns-in-empty t c = section_short c.args.lines.now c.in-empty.len_below

pub returns-in_ok-insert-in-len1-up : goal.returns-in_ok-insert-in-len1-up
returns-in_ok-insert-in-len1-up t c =
    ap Some c.in_ok-insert-in-len1-up.ensures.items
    ∙ section_more c.args.lines.now _ c.in-Some.field c.in-Some-2.headers.items c.in-len1-up.len_at_least
    (sym c.in-Some.is ∙ c.in_ok-field-in-len1-up.ensures)
    (ap (option_map (λ headers. headers.items)) (sym c.in-Some-2.is) ∙ c.in_ok-headers-in-len1-up.ensures
    ∙ ap (λ lines. option_map headers_of (section_of (seen lines))) (take_rest c.args.lines.now 1))
