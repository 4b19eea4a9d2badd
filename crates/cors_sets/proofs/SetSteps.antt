-- Sets of texts: their members joined one after another, and in a row.
use Rattle.std.proofs.Common.{◌≡◌, ◌+◌, ℕ, true, Result, Ok, Err, is_ok, false, List, [], ◌∷◌, ◌++◌, length, get_or, map, arith, sym, ap, ◌∙◌, refl, append_assoc, Bor, ne_eqb, length-append, eqb-true, inl, inr, is_eq, is_lt, Ordering, Less, Equal, Greater, IsSortedBy}
use Rattle.std.specs.Prelude.{◌==◌}
use Rattle.std.proofs.lemmas.Bool.{cases_lt}
use Rattle.std.proofs.lemmas.List.{append-nil, map_push}
use Rattle.std.proofs.lemmas.List.Folds.{list_any_at, list_any_none, map_fixed}
use Rattle.std.proofs.lemmas.List.Sums.{AllPass-from_list_all}
use Rattle.std.proofs.lemmas.List.Sorted.{searchable_from_sorted}
use Rattle.std.proofs.lemmas.Map.Keys.{Less-from_sorted}
use Rattle.cors_sets.specs.Joining.{and_joined}
use Rattle.std.specs.Prelude.{Bool, bytes_eq, codes}
use Rattle.std.specs.Cmp.Lexicographic.{slice_cmp, nat_list_cmp_total}
use Rattle.std.specs.Char.{to_ascii_lowercase}
use Rattle.std.specs.List.{list_any, list_all}
use Rattle.std.specs.List.Sorted.{IsStrictlySortedBy, IsSearchInRange, IsBinarySearchResult}
use Rattle.std.specs.Ordering.{nat_cmp, ordering_reverse}
use Rattle.std.proofs.lemmas.Map.Text.{is_eq-slice_cmp}
use Rattle.http_header.specs.Token.{lowercase}
use Rattle.cors_rules.specs.Sets.{Texts, holds, joined}

-- the texts behind the references
abbrev pub texts_of : List (Bor (List ℕ)) → Texts
texts_of refs = map (λ (r : Bor (List ℕ)). r.now) refs

-- one more text
pub joined_more : (text next : List ℕ) (set : Texts) → joined ((text ∷ set) ++ next ∷ []) ≡ joined (text ∷ set) ++ codes ", " ++ next
joined_more text next [] = refl
joined_more text next (other ∷ set) =
    ap (λ ts. text ++ codes ", " ++ ts) (joined_more other next set)
    ∙ simp append_assoc

-- one more text, behind what stood before the first
pub joined_behind : (before : List ℕ) (set : Texts) (next : List ℕ)
    → before ++ joined (set ++ next ∷ []) ≡ and_joined (length set == 0) (before ++ joined set) next
joined_behind before [] next = ap (λ bytes. bytes ++ next) (sym (append-nil before))
joined_behind before (text ∷ set) next =
    let more : before ++ joined ((text ∷ set) ++ next ∷ []) ≡ before ++ joined (text ∷ set) ++ codes ", " ++ next =
    ap (λ bytes. before ++ bytes) (joined_more text next set) ∙ simp append_assoc
    in
    more
    ∙ ap (λ b. and_joined b (before ++ joined (text ∷ set)) next) (sym (ne_eqb (length (text ∷ set)) 0 (omega arith)))

pub texts_more : (refs : List (Bor (List ℕ))) (r : Bor (List ℕ)) → texts_of (refs ++ r ∷ []) ≡ texts_of refs ++ r.now ∷ []
texts_more refs r = map_push (λ (r : Bor (List ℕ)). r.now) refs r

pub texts_some : (refs : List (Bor (List ℕ))) (r : Bor (List ℕ)) → false ≡ (length (texts_of (refs ++ r ∷ [])) == 0)
texts_some refs r = rw (texts_more refs r, length-append) (sym (ne_eqb (length (texts_of refs) + 1) 0 (omega arith)))

-- one text of a row, from how it stands to the text that is asked for
is_asked : (text member : List ℕ) (o : Ordering) → slice_cmp nat_cmp member text ≡ o → bytes_eq text member ≡ is_eq (ordering_reverse o)
is_asked text member o e =
    sym (is_eq-slice_cmp text member)
    ∙ ap is_eq (nat_list_cmp_total.antisymm text member)
    ∙ ap (λ (o : Ordering). is_eq (ordering_reverse o)) e

is_eq_reversed : (o : Ordering) → is_eq (ordering_reverse o) ≡ is_eq o
is_eq_reversed Less = refl
is_eq_reversed Equal = refl
is_eq_reversed Greater = refl

-- by how a member stands to the text it is told whether it is the text
pub told_equal : (text member : List ℕ) → is_eq (slice_cmp nat_cmp member text) ≡ bytes_eq text member
told_equal text member = sym (is_asked text member _ refl ∙ is_eq_reversed (slice_cmp nat_cmp member text))

-- what a search asks: texts further on are no lower
rises : (row : Texts) → IsStrictlySortedBy (slice_cmp nat_cmp) row → IsSortedBy (λ a b. is_lt (slice_cmp nat_cmp a b)) row
rises row sorted k d low high =
    ap is_lt (nat_list_cmp_total.antisymm (get_or row (k + 1) d) (get_or row k d)
    ∙ ap ordering_reverse (Less-from_sorted (slice_cmp nat_cmp) row k (k + 1) d sorted (omega arith) high))

-- a search of a row tells whether the text is a member
pub found_in_row : (text : List ℕ) (row : Texts) (r : Result ℕ ℕ) → IsStrictlySortedBy (slice_cmp nat_cmp) row → IsSearchInRange r (length row)
    → IsBinarySearchResult (λ member. slice_cmp nat_cmp member text) row r → is_ok r ≡ list_any (bytes_eq text) row
found_in_row text row (Ok at) sorted within equal =
    sym (list_any_at (bytes_eq text) row at [] within (is_asked text (get_or row at []) Equal (equal [])))
found_in_row text row (Err at) sorted within parted =
    let parts = parted (searchable_from_sorted nat_list_cmp_total (λ member. member) row text (rises row sorted)) in
    sym (list_any_none (bytes_eq text) row (λ k d l.
    elim (cases_lt k at) [
      | inl before ↦ is_asked text (get_or row k d) Less (parts.0 k d (omega arith) before)
      | inr behind ↦ is_asked text (get_or row k d) Greater (parts.1 k d behind l)
    ]))

-- a name in lower case is a member where its own bytes are
pub lower_holds : (set : Texts) (name : List ℕ) → list_all (λ b. to_ascii_lowercase b == b) name ≡ true → holds set name ≡ holds set (lowercase name)
lower_holds set name lower =
    ap (holds set) (sym (map_fixed to_ascii_lowercase name (λ k d l. eqb-true _ _ (AllPass-from_list_all (λ b. to_ascii_lowercase b == b) name lower k d l))))
