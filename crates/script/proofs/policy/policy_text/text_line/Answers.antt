use Rattle.std.proofs.Common.{◌≡◌, rules, sym, ap, ◌∙◌}
use Rattle.std.specs.Option.{option_map}
use Rattle.std.proofs.lemmas.List.{take_rest}
use Rattle.script.specs.PolicyText.{some_text}
use Rattle.script.specs.declared.policy.policy_line.PolicyLine.TheVariants.{Origin, Header}
use Rattle.script.proofs.Plainness.{plain_rest}
use Rattle.script.proofs.PolicyTexts.{origin_is, header_is, no_text}
use Rattle.script.proofs.policy.policy_text.text_line.Goals as goal

pub some_text-requires : goal.some_text-requires
some_text-requires c = plain_rest 7 c.args.line.now c.requires

pub some_text-requires-then-starts_with-2 : goal.some_text-requires-then-starts_with-2
some_text-requires-then-starts_with-2 c = plain_rest 7 c.args.line.now c.requires

pub returns-then-starts_with : goal.returns-then-starts_with
returns-then-starts_with c =
    let mapped : c.map.result ≡ option_map Origin c.in_ok-some_text.field-0 = search rules in
    mapped ∙ ap (option_map Origin) (c.in_ok-some_text.ensures ∙ ap some_text (take_rest c.args.line.now 7))
    ∙ origin_is c.args.line.now (rw c.as_slice.ensures at (sym c.starts_with.ensures.value ∙ c.if-starts_with.true))

pub returns-then-starts_with-2 : goal.returns-then-starts_with-2
returns-then-starts_with-2 c =
    let mapped : c.map-then-starts_with-2.result ≡ option_map Header c.in_ok-some_text-2.field-0 = search rules in
    mapped ∙ ap (option_map Header) (c.in_ok-some_text-2.ensures ∙ ap some_text (take_rest c.args.line.now 7))
    ∙ header_is c.args.line.now (rw c.as_slice.ensures at (sym c.starts_with.ensures.value ∙ c.if-starts_with.false))
    (rw c.as_slice-2.ensures at (sym c.starts_with-2.ensures.value ∙ c.if-starts_with-2.true))

pub returns : goal.returns
returns c =
    no_text c.args.line.now (rw c.as_slice.ensures at (sym c.starts_with.ensures.value ∙ c.if-starts_with.false))
    (rw c.as_slice-2.ensures at (sym c.starts_with-2.ensures.value ∙ c.if-starts_with-2.false))
