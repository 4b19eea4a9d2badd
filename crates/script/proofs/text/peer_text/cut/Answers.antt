use Rattle.std.proofs.Common.{◌==◌, rules, tests, sym, ◌∙◌, None}
use Rattle.std.proofs.lemmas.Iterator.{YieldsList-from_slice}
use Rattle.std.proofs.lemmas.Iterator.Search.{position_from_yields_List}
use Rattle.script.proofs.Numbers.{cut_is, cut_some}
use Rattle.script.proofs.text.peer_text.cut.Goals as goal

pub returns-in_err-i : goal.returns-in_err-i
returns-in_err-i c =
    let found = position_from_yields_List (λ b. b == c.args.at) _ _ _ c.position.ensures.ran (YieldsList-from_slice c.args.text.now cc) (λ x b q k. search (rules, tests)) in
    rw c.from_residual.ensures (cut_is c.args.at c.args.text.now None (sym c.in_err-i.was ∙ found))

pub returns : goal.returns
returns c =
    let found = position_from_yields_List (λ b. b == c.args.at) _ _ _ c.position.ensures.ran (YieldsList-from_slice c.args.text.now cc) (λ x b q k. search (rules, tests)) in
    cut_some c.args.at c.args.text.now c.in_ok-i.i (sym c.in_ok-i.was ∙ found)
