use Rattle.std.proofs.Common.{◌≡◌, ◌≤◌, ◌<◌, ◌+◌, ℕ, suc, List, [], ◌∷◌, ◌++◌, length, get_or, take, drop, append_assoc, drop-cons, sym, ap, ◌∙◌, arith, Ordering, Less, Equal, Greater}
use Rattle.std.specs.List.{insert}
use Rattle.std.specs.Cmp.Lexicographic.{slice_cmp}
use Rattle.std.specs.Ordering.{nat_cmp, match_ordering}
use Rattle.std.proofs.lemmas.List.{drop_all, take_more, take-append-drop}
use Rattle.cors_rules.specs.Sets.{Texts, with}
use Rattle.cors_policy.proofs.name_list.place_of.Goals as goal

module _ (names : Texts) (name here d : List ℕ) (at : ℕ) (inside : at < length names) (is : here ≡ get_or names at d)
    (goes : with names name ≡ take at names ++ with (drop at names) name) where
  split : drop at names ≡ here ∷ drop (suc at) names
  split = drop-cons names at d inside ∙ ap (λ n. n ∷ drop (suc at) names) (sym is)

  by_order : (o : Ordering) → slice_cmp nat_cmp name here ≡ o
      → with (drop at names) name ≡ match_ordering o (name ∷ here ∷ drop (suc at) names) (here ∷ drop (suc at) names) (here ∷ with (drop (suc at) names) name)
  by_order o order =
      ap (λ ns. with ns name) split
      ∙ ap (λ o. match_ordering o (name ∷ here ∷ drop (suc at) names) (here ∷ drop (suc at) names) (here ∷ with (drop (suc at) names) name)) order

  before : slice_cmp nat_cmp name here ≡ Less → with names name ≡ insert names at name
  before order = goes ∙ ap (λ ns. take at names ++ ns) (by_order Less order ∙ ap (λ ns. name ∷ ns) (sym split))

  there : slice_cmp nat_cmp name here ≡ Equal → with names name ≡ names
  there order = goes ∙ ap (λ ns. take at names ++ ns) (by_order Equal order ∙ sym split) ∙ take-append-drop at names

  behind : slice_cmp nat_cmp name here ≡ Greater → with names name ≡ take (at + 1) names ++ with (drop (at + 1) names) name
  behind order =
      let on : suc at ≡ at + 1 = omega arith in
      goes
      ∙ ap (λ ns. take at names ++ ns) (by_order Greater order)
      ∙ sym (append_assoc (take at names) (here ∷ []) (with (drop (suc at) names) name))
      ∙ ap (λ ns. (take at names ++ ns ∷ []) ++ with (drop (suc at) names) name) is
      ∙ ap (λ ns. ns ++ with (drop (suc at) names) name) (sym (take_more names at d inside))
      ∙ ap (λ n. take (at + 1) names ++ with (drop n names) name) on

last : (names : Texts) (name : List ℕ) (at : ℕ) → length names ≤ at → with names name ≡ take at names ++ with (drop at names) name
    → with names name ≡ insert names at name
last names name at past goes =
    let none = drop_all at names past in
    goes ∙ ap (λ ns. take at names ++ ns) (ap (λ ns. with ns name) none ∙ ap (λ ns. name ∷ ns) (sym none))

pub loop-at-preserved : goal.loop-at-preserved
loop-at-preserved c = record {
  within = omega arith;
  goes = behind c.args.names.now c.args.name.now c.as_bytes.result.now c.index-names-at.result c.loop-at.at c.loop-at-test.true
      (c.as_bytes.ensures ∙ c.index-names-at.is) c.loop-at.invariant.goes (sym c.cmp.ensures ∙ c.in-Greater.is);
}

pub returns-in-Less-clause-placed : goal.returns-in-Less-clause-placed
returns-in-Less-clause-placed c =
    before c.args.names.now c.args.name.now c.as_bytes.result.now c.index-names-at.result c.loop-at.at c.loop-at-test.true
    (c.as_bytes.ensures ∙ c.index-names-at.is) c.loop-at.invariant.goes (sym c.cmp.ensures ∙ c.in-Less.is)

pub returns-in-Equal-clause-there : goal.returns-in-Equal-clause-there
returns-in-Equal-clause-there c =
    there c.args.names.now c.args.name.now c.as_bytes.result.now c.index-names-at.result c.loop-at.at c.loop-at-test.true
    (c.as_bytes.ensures ∙ c.index-names-at.is) c.loop-at.invariant.goes (sym c.cmp.ensures ∙ c.in-Equal.is)

pub returns-clause-placed : goal.returns-clause-placed
returns-clause-placed c = last c.args.names.now c.args.name.now c.loop-at.at c.loop-at-test.false c.loop-at.invariant.goes
