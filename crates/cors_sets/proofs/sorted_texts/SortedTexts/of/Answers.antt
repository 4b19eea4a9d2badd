use Rattle.std.proofs.Common.{◌≡◌, ◌++◌, List, ℕ, sym, ap, ◌∙◌, subst}
use Rattle.std.specs.Ordering.{nat_cmp}
use Rattle.std.specs.Cmp.Lexicographic.{slice_cmp}
use Rattle.std.specs.List.Sorted.{IsStrictlySortedBy}
use Rattle.cors_sets.proofs.sorted_texts.SortedTexts.of.Goals as goal

pub invariant_of-result : goal.invariant_of-result
invariant_of-result c =
    let whole : c.push_copies.new.row.items ≡ c.args.texts.now.keys =
    c.in-Ok.ensures.copied ∙ ap (λ (texts : List (List ℕ)). texts ++ c.args.texts.now.keys) c.new-row.ensures.items in
    subst (IsStrictlySortedBy (slice_cmp nat_cmp)) (sym whole) c.push_copies.ensures.sorted
