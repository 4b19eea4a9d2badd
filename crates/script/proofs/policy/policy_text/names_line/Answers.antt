use Rattle.std.proofs.Common.{◌≡◌, rules, sym, ap, subst, ◌∙◌, IfOk}
use Rattle.std.specs.Option.{option_map}
use Rattle.std.proofs.lemmas.List.{take_rest}
use Rattle.script.specs.PolicyText.{some_words}
use Rattle.script.specs.declared.policy.policy_line.PolicyLine.TheVariants.{Headers}
use Rattle.script.proofs.Plainness.{plain_rest}
use Rattle.script.proofs.PolicyTexts.{headers_is, no_headers}
use Rattle.script.proofs.policy.policy_text.names_line.Goals as goal

pub some_words-requires : goal.some_words-requires
some_words-requires c = plain_rest 8 c.args.line.now c.requires

pub returns-then-starts_with : goal.returns-then-starts_with
returns-then-starts_with c =
    let mapped : c.map.result ≡ option_map Headers c.in_ok-some_words.field-0 = search rules in
    mapped ∙ ap (option_map Headers) (c.in_ok-some_words.ensures ∙ ap some_words (take_rest c.args.line.now 8))
    ∙ headers_is c.args.line.now (rw c.as_slice.ensures at (sym c.starts_with.ensures.value ∙ c.if-starts_with.true))

pub returns : goal.returns
returns c =
    subst (λ form. IfOk c.exposed_line.result (λ said. said ≡ form))
    (no_headers c.args.line.now (rw c.as_slice.ensures at (sym c.starts_with.ensures.value ∙ c.if-starts_with.false)))
    c.exposed_line.ensures
