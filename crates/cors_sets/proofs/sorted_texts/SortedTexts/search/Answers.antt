use Rattle.std.proofs.Common.{◌∙◌, rules}
use Rattle.std.specs.Cmp.Lexicographic.{slice_cmp}
use Rattle.std.specs.Ordering.{nat_cmp}
use Rattle.std.proofs.lemmas.Fn.{always_returns_same}
use Rattle.cors_sets.proofs.SetSteps.{found_in_row}
use Rattle.cors_sets.proofs.sorted_texts.SortedTexts.search.Goals as goal

-- the closure compares a member with the text, and the slice is the row
pub returns : goal.returns
returns c =
    let facts = c.binary_search_by.ensures in
    let by_member = facts.position (λ member. slice_cmp nat_cmp member c.args.text.now) (always_returns_same _ _ _ (λ a r g called. search rules)) in
    rw (← c.self.view_is, ← c.deref.ensures.value)
    (c.is_ok.ensures.value ∙ found_in_row c.args.text.now _ _ (rw c.deref.ensures.value c.self.invariant) facts.bound by_member)
