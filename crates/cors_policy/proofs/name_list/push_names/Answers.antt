use Rattle.std.proofs.Common.{◌++◌, ◌∷◌, [], take, take_all, sym, ap, ◌∙◌}
use Rattle.std.specs.Prelude.{codes}
use Rattle.std.proofs.lemmas.List.{take_more}
use Rattle.cors_rules.specs.Sets.{joined}
use Rattle.cors_sets.proofs.SetSteps.{joined_more}
use Rattle.cors_policy.proofs.name_list.push_names.Goals as goal

pub loop-name-preserved : goal.loop-name-preserved
loop-name-preserved c =
    let names = c.args.names.now in
    let i = c.loop-name.name-index in
    let name = c.name-item.result in
    c.in_ok-push_value.ensures.ok
    ∙ ap (λ text. text ++ name) c.in_ok-push_literal.ensures
    ∙ ap (λ text. text ++ codes ", " ++ name) c.loop-name.invariant
    ∙ sym (joined_more c.args.text.now name (take i names))
    ∙ ap (λ ns. joined (c.args.text.now ∷ ns))
    (ap (λ n. take i names ++ n ∷ []) c.name-item.is ∙ sym (take_more names i name c.loop-name-test.true))

pub returns : goal.returns
returns c = c.loop-name.invariant ∙ ap (λ ns. joined (c.args.text.now ∷ ns)) (take_all c.loop-name.name-index c.args.names.now c.loop-name-test.false)
