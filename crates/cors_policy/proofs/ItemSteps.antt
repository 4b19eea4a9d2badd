-- One item of what a preflight asks for more.
use Rattle.std.proofs.Common.{◌≡◌, ◌<◌, ◌+◌, ℕ, Bool, true, false, List, ◌∷◌, length, drop, get_or, Ok, Err, sym, ◌∙◌, ap, arith, add-one, refl}
use Rattle.std.specs.Prelude.{◌&&◌, if◌then◌else◌}
use Rattle.std.specs.List.{list_all}
use Rattle.std.proofs.Math.Seq.{drop-cons}
use Rattle.std.proofs.lemmas.List.{drop_all}
use Rattle.cors_rules.specs.declared.cors_error.CorsError.TheVariants.{BadRequestHeaders, HeadersNotAllowed}
use Rattle.cors_rules.specs.Sets.{Texts}
use Rattle.cors_rules.specs.Requested.{Check, is_item_name, holds_item}

-- what comes of names that are members or not
abbrev pub judged_end : Bool → Check
judged_end are_members = if are_members then Ok tt else Err HeadersNotAllowed

-- what comes of the items that are left, where those before were names, and members or not
abbrev pub judged : Texts → Bool → List (List ℕ) → Check
judged headers are_members left =
    if list_all is_item_name left
    then judged_end (are_members && list_all (holds_item headers) left)
    else Err BadRequestHeaders

and_assoc : (a b c : Bool) → (a && (b && c)) ≡ ((a && b) && c)
and_assoc true b c = refl
and_assoc false b c = refl

last : (are_members : Bool) → judged_end (are_members && true) ≡ judged_end are_members
last true = refl
last false = refl

module _ (headers : Texts) (all : Check) (are_members : Bool) (these : List (List ℕ)) (i : ℕ) (so_far : all ≡ judged headers are_members (drop i these)) where
  module _ (item : List ℕ) (here : (i < length these) × (item ≡ get_or these i item)) where
    one : all ≡ judged headers are_members (item ∷ drop (i + 1) these)
    one =
        let first : drop i these ≡ item ∷ drop (i + 1) these = rw add-one (drop-cons these i item here.0) ∙ ap (λ l. l ∷ drop (i + 1) these) (sym here.1) in
        so_far ∙ ap (judged headers are_members) first

    by_name : (is_name : Bool) → is_item_name item ≡ is_name
        → all ≡ if is_name && list_all is_item_name (drop (i + 1) these)
        then judged_end (are_members && (holds_item headers item && list_all (holds_item headers) (drop (i + 1) these)))
        else Err BadRequestHeaders
    by_name is_name is = one ∙ ap (λ b. if b && list_all is_item_name (drop (i + 1) these)
        then judged_end (are_members && (holds_item headers item && list_all (holds_item headers) (drop (i + 1) these)))
        else Err BadRequestHeaders) is

    pub bad_item : is_item_name item ≡ false → all ≡ Err BadRequestHeaders
    bad_item is = by_name false is

    pub good_item : is_item_name item ≡ true → (next : Bool) → next ≡ (are_members && holds_item headers item)
        → all ≡ judged headers next (drop (i + 1) these)
    good_item is next told = by_name true is
        ∙ ap (λ b. if list_all is_item_name (drop (i + 1) these) then judged_end b else Err BadRequestHeaders)
        (and_assoc are_members (holds_item headers item) (list_all (holds_item headers) (drop (i + 1) these))
        ∙ ap (λ b. b && list_all (holds_item headers) (drop (i + 1) these)) (sym told))

  pub all_items : i ≡ length these → all ≡ judged_end are_members
  all_items end = so_far ∙ ap (judged headers are_members) (drop_all i these (omega (arith, end))) ∙ last are_members
