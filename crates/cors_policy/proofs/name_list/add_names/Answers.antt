use Rattle.std.proofs.Common.{take, sym, ap, ◌∙◌, take_all, fold}
use Rattle.std.proofs.lemmas.List.Folds.{fold-map}
use Rattle.std.proofs.lemmas.List.Sums.{fold_more}
use Rattle.http1_grammar.specs.Headers.{Header}
use Rattle.cors_rules.specs.Sets.{Texts, with}
use Rattle.cors_policy.proofs.name_list.add_names.Goals as goal

abbrev with_name : Texts → Header → Texts
with_name names header = with names header.0

pub loop-name-preserved : goal.loop-name-preserved
loop-name-preserved c =
    let headers = c.entries-name-items.result.now in
    c.in_ok-add_name.ensures
    ∙ ap (λ names. with names c.loop-name-item.result.0) c.loop-name.invariant
    ∙ ap (λ header. with (fold with_name c.args.names.now.items (take c.loop-name.name-index headers)) header.0) c.loop-name-item.is
    ∙ sym (fold_more with_name c.args.names.now.items headers c.loop-name.name-index _ c.loop-name-test.true)

pub returns : goal.returns
returns c =
    let headers = c.entries-name-items.result.now in
    c.loop-name.invariant
    ∙ ap (fold with_name c.args.names.now.items) (take_all c.loop-name.name-index headers c.loop-name-test.false ∙ c.entries-name-items.ensures)
    ∙ sym (fold-map with _ _ c.args.headers.now)
