-- Only where the policy grants does an answer tell a grant.
use Rattle.std.proofs.Common.{◌≡◌, ℕ, Bool, true, false, cond, List, [], Option, Some, None, Result, Ok, Err, is_some, inl, inr, refl, ◌∙◌, codes}
use Rattle.std.proofs.lemmas.Bool.{cases_Bool}
use Rattle.http1_grammar.specs.Head.{Head}
use Rattle.http1_grammar.specs.Wire.{Response}
use Rattle.cors_rules.specs.declared.cors_error.CorsError.{CorsError}
use Rattle.cors_rules.specs.declared.cors_error.CorsError.TheVariants.{OriginNotAllowed}
use Rattle.cors_rules.specs.Policy.{Policy}
use Rattle.cors_rules.specs.Origins.{IsGranted, Rules, grants, grants_everyone, origin_of, validate_given, validate_origin}
use Rattle.cors_rules.specs.Requested.{Check, validate_allowed_headers, validate_allowed_method}
use Rattle.cors_rules.specs.Fields.{told}
use Rattle.cors_rules.specs.Answers.{and_then, by_grant, by_verdict, judged, must_grant, preflight_answer, preflight_check, takes_preflight, verdict}
use Rattle.cors_rules.proofs.LawSteps.{augmented_grant, varied_other}

module _ {G : Type 0} (allows : Rules G) (policy : Policy G) (head : Head) where
  given_grants : (origin : Option (List ℕ)) → origin_of head ≡ origin → validate_given allows policy head origin ≡ Ok true → IsGranted allows policy head
  given_grants None is passed = cc
  given_grants (Some origin) is passed =
      elim (cases_Bool (grants allows policy head origin)) [
        | inl granted ↦ inr (origin, is, granted)
        | inr other ↦
            let refused : cond policy.block (Err OriginNotAllowed) (Ok false) ≡ Ok true = rw other at passed in
            elim (cases_Bool policy.block) [
              | inl blocks ↦ let blocked : Err OriginNotAllowed ≡ Ok true = rw blocks at refused in cc
              | inr passes ↦ let not_granted : Ok false ≡ Ok true = rw passes at refused in cc
            ]
      ]

  pub passed_grants : validate_origin allows policy head ≡ Ok true → IsGranted allows policy head
  unfolding validate_origin
  passed_grants passed =
      elim (cases_Bool (grants_everyone policy)) [
        | inl everyone ↦ inl everyone
        | inr some ↦ given_grants (origin_of head) refl (rw some at passed)
      ]

  -- a preflight that passes is granted
  checked : (r : Result Bool CorsError) → validate_origin allows policy head ≡ r
      → (next u : Check) → and_then (must_grant r) next ≡ u → (told (preflight_answer policy head u).headers ≡ [] → ⊥) → IsGranted allows policy head
  checked (Err e) is next (Err f) same some = absurd (some refl)
  checked (Err e) is next (Ok u) same some = cc
  checked (Ok true) is next u same some = passed_grants is
  checked (Ok false) is next (Err f) same some = absurd (some refl)
  checked (Ok false) is next (Ok u) same some = cc

  judged_grants : (r : Result Bool CorsError) → judged allows policy head ≡ r → (inner : Response) → told inner.headers ≡ []
      → (told (by_verdict policy inner (by_grant policy head r)).headers ≡ [] → ⊥) → IsGranted allows policy head
  judged_grants (Err e) is inner none some = absurd (some (varied_other policy [] (codes "access-control-allow-origin") refl))
  judged_grants (Ok true) is inner none some =
      elim (cases_Bool (is_some (origin_of head))) [
        | inl there ↦ passed_grants (rw there at is)
        | inr absent ↦ let other : Ok false ≡ Ok true = rw absent at is in cc
      ]
  judged_grants (Ok false) is inner none some = absurd (some (augmented_grant policy None inner.headers ∙ none))

  pub told_grants : (inner : Response) → told inner.headers ≡ [] → (told (by_verdict policy inner (verdict allows policy head)).headers ≡ [] → ⊥)
      → IsGranted allows policy head
  unfolding verdict
  told_grants inner none some =
      elim (cases_Bool (takes_preflight policy head)) [
        | inl preflighted ↦
            let some' = rw preflighted at some in
            checked (validate_origin allows policy head) refl (and_then (validate_allowed_method policy head) (validate_allowed_headers policy head)) (preflight_check allows policy head) refl some'
        | inr plain ↦ judged_grants (judged allows policy head) refl inner none (rw plain at some)
      ]
