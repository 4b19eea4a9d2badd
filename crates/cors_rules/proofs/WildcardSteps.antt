-- Beside credentials each grant that is told is the request's own origin.
use Rattle.std.proofs.Common.{◌≡◌, ◌<◌, ◌⊎◌, ℕ, zero, suc, true, false, List, [], ◌∷◌, ◌++◌, Option, Some, None, Result, Ok, Err, Bool, inl, inr, refl, sym, ◌∙◌, ap, subst, bytes_eq, codes, decimal, option_map, arith}
use Rattle.std.specs.List.{Contains, slice_index_or}
use Rattle.std.specs.Option.{option_to_list}
use Rattle.std.proofs.lemmas.Bool.{cases_Bool}
use Rattle.http1_grammar.specs.Headers.{Header}
use Rattle.http1_grammar.specs.Head.{Head}
use Rattle.cors_rules.specs.declared.cors_error.CorsError.{CorsError}
use Rattle.cors_rules.specs.Allowed.{is_all}
use Rattle.cors_rules.specs.Policy.{Policy}
use Rattle.cors_rules.specs.Refusing.{is_illegal}
use Rattle.cors_rules.specs.Origins.{Rules, granted_value, origin_of}
use Rattle.cors_rules.specs.Requested.{Check, asked_headers}
use Rattle.cors_rules.specs.Sets.{joined_some}
use Rattle.cors_rules.specs.Fields.{allowed_value, augment, field, told, vary, when}
use Rattle.cors_rules.specs.Answers.{by_grant, handed_on, judged, preflight, preflight_answer, preflight_check, preflight_headers, takes_preflight, verdict}
use Rattle.cors_rules.proofs.LawSteps.{augmented_grant, cons_same, inserted_one, varied_other}

only_at : (value x : List ℕ) (k : ℕ) → k < 1 → slice_index_or (value ∷ []) k x ≡ x → value ≡ x
only_at value x zero h is = is
only_at value x (suc k) h is = absurd (omega (arith, h))

only_member : (o : Option (List ℕ)) (x : List ℕ) → Contains (option_to_list o) x → o ≡ Some x
only_member None x member = absurd (omega (arith, member.1))
only_member (Some value) x member = ap Some (only_at value x member.0 member.1 member.2)

-- a field of another name tells no grant
behind : (headers : List Header) (name : List ℕ) (value : Option (List ℕ)) → bytes_eq name (codes "access-control-allow-origin") ≡ false
    → told (headers ++ field name value) ≡ told headers
behind [] name None other = refl
behind [] name (Some value) other = rw other refl
behind (header ∷ headers) name value other =
    cons_same header (headers ++ field name value) headers (codes "access-control-allow-origin") (behind headers name value other)

in_front : (value : Option (List ℕ)) → told (field (codes "access-control-allow-origin") value) ≡ option_to_list value
in_front None = refl
in_front (Some value) = refl

first_of_five : (grant methods names credentials age : Option (List ℕ)) → told (field (codes "access-control-allow-origin") grant
    ++ field (codes "access-control-allow-methods") methods ++ field (codes "access-control-allow-headers") names
    ++ field (codes "access-control-allow-credentials") credentials ++ field (codes "access-control-max-age") age) ≡ option_to_list grant
first_of_five grant methods names credentials age =
    let one = field (codes "access-control-allow-origin") grant in
    let two = one ++ field (codes "access-control-allow-methods") methods in
    let three = two ++ field (codes "access-control-allow-headers") names in
    let four = three ++ field (codes "access-control-allow-credentials") credentials in
    behind four (codes "access-control-max-age") age refl ∙ behind three (codes "access-control-allow-credentials") credentials refl
    ∙ behind two (codes "access-control-allow-headers") names refl ∙ behind one (codes "access-control-allow-methods") methods refl
    ∙ in_front grant

module _ {G : Type 0} (allows : Rules G) (policy : Policy G) (head : Head) where
  preflight_told : told (preflight_headers policy head) ≡ option_to_list (granted_value policy head)
  unfolding preflight_headers
  preflight_told =
      first_of_five (granted_value policy head) (joined_some policy.methods) (allowed_value policy.headers (asked_headers head))
      (when policy.credentials (codes "true")) (option_map decimal policy.max_age)

  -- what is handed on with a grant is handed on with the value of one
  by_grant_value : (r : Result Bool CorsError) (value : List ℕ) → by_grant policy head r ≡ handed_on (Some value) → granted_value policy head ≡ Some value
  by_grant_value (Err error) value is = cc
  by_grant_value (Ok true) value is = cc
  by_grant_value (Ok false) value is = cc

  handed_value : (value : List ℕ) → verdict allows policy head ≡ handed_on (Some value) → granted_value policy head ≡ Some value
  unfolding verdict
  handed_value value is =
      elim (cases_Bool (takes_preflight policy head)) [
        | inl taken ↦ let answered_here = rw taken at is in cc
        | inr passed ↦ by_grant_value (judged allows policy head) value (rw passed at is)
      ]

  module _ (legal : is_illegal policy ≡ false) (credentials : policy.credentials ≡ true) where
    pub granted_own : granted_value policy head ≡ origin_of head
    granted_own =
        elim (cases_Bool policy.wildcard) [
          | inl wildcard ↦ let some : is_all policy.origins ≡ false = rw (credentials, wildcard) at legal in rw some refl
          | inr plain ↦
              elim (cases_Bool (is_all policy.origins)) [
                | inl everyone ↦ rw (everyone, plain) refl
                | inr some ↦ rw some refl
              ]
        ]

    checked_own : (check : Check) (value : List ℕ) → Contains (told (preflight_answer policy head check).headers) value → origin_of head ≡ Some value
    checked_own (Err error) value member = absurd (omega (arith, member.1))
    checked_own (Ok passed) value member =
        let own : told (vary policy (preflight_headers policy head)) ≡ option_to_list (origin_of head) =
        varied_other policy (preflight_headers policy head) (codes "access-control-allow-origin") refl ∙ preflight_told ∙ ap option_to_list granted_own in
        only_member (origin_of head) value (subst (λ (values : List (List ℕ)). Contains values value) own member)

    pub preflight_own : (value : List ℕ) → Contains (told (preflight allows policy head).headers) value → origin_of head ≡ Some value
    preflight_own value = checked_own (preflight_check allows policy head) value

    pub augmented_own : (grant : Option (List ℕ)) (headers : List Header) (value : List ℕ) → verdict allows policy head ≡ handed_on grant
        → Contains (told (augment policy grant headers)) value → (origin_of head ≡ Some value) ⊎ ((grant ≡ None) × Contains (told headers) value)
    augmented_own None headers value is member =
        inr (refl, subst (λ (values : List (List ℕ)). Contains values value) (augmented_grant policy None headers) member)
    augmented_own (Some given) headers value is member =
        let alone : told (augment policy (Some given) headers) ≡ given ∷ [] =
        augmented_grant policy (Some given) headers ∙ inserted_one headers (codes "access-control-allow-origin") given in
        let same : Some given ≡ Some value = only_member (Some given) value (subst (λ (values : List (List ℕ)). Contains values value) alone member) in
        inl (sym granted_own ∙ handed_value given is ∙ same)
