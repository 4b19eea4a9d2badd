-- By which errors a request may be refused.
use Rattle.std.proofs.Common.{◌≡◌, ℕ, Bool, true, false, cond, List, Option, Some, None, Result, Ok, Err, is_some, refl, sym, ◌∙◌, ap}
use Rattle.std.specs.List.{list_all}
use Rattle.std.specs.Option.{option_map_or}
use Rattle.std.proofs.lemmas.Bool.{and_parts}
use Rattle.http_header.specs.Token.{is_visible_or_blank}
use Rattle.http1_grammar.specs.Head.{Head}
use Rattle.cors_rules.specs.declared.all_or_some.AllOrSome.{AllOrSome}
use Rattle.cors_rules.specs.declared.all_or_some.AllOrSome.TheVariants as allowed
use Rattle.cors_rules.specs.declared.cors_error.CorsError.{CorsError}
use Rattle.cors_rules.specs.declared.cors_error.CorsError.TheVariants.{HeadersNotAllowed, MethodNotAllowed, OriginNotAllowed}
use Rattle.cors_rules.specs.Building.{is_token}
use Rattle.cors_rules.specs.Sets.{Texts, holds}
use Rattle.cors_rules.specs.Policy.{Policy}
use Rattle.cors_rules.specs.Origins.{Rules, grants, grants_everyone, origin_of, validate_given, validate_origin}
use Rattle.cors_rules.specs.Requested.{Check, asked_headers, asked_method, holds_item, is_item_name, is_preflight, items, validate_allowed_headers, validate_allowed_method, validate_headers, validate_method, validate_value}
use Rattle.cors_rules.specs.Answers.{and_then, judged, must_grant, preflight_check, refuses_requests}

-- a check that passes, or refuses a request by such an error
abbrev Refuses : {A : Type 0} → Result A CorsError → Type 0
Refuses (Ok passed) = Unit {0}
Refuses (Err error) = refuses_requests error ≡ true

either : {A : Type 0} (test : Bool) (x y : Result A CorsError) → Refuses x → Refuses y → Refuses (cond test x y)
either true x y p q = p
either false x y p q = q

module _ {G : Type 0} (allows : Rules G) (policy : Policy G) (head : Head) where
  given_refuses : (origin : Option (List ℕ)) → Refuses (validate_given allows policy head origin)
  given_refuses None = refl
  given_refuses (Some origin) = either (grants allows policy head origin) _ _ tt (either policy.block (Err OriginNotAllowed) (Ok false) refl tt)

  origin_refuses : Refuses (validate_origin allows policy head)
  unfolding validate_origin
  origin_refuses = either (grants_everyone policy) (Ok true) _ tt (given_refuses (origin_of head))

  judged_refuses : Refuses (judged allows policy head)
  judged_refuses = either (is_some (origin_of head)) _ (Ok false) origin_refuses tt

granted_refuses : (r : Result Bool CorsError) → Refuses r → Refuses (must_grant r)
granted_refuses (Err error) h = h
granted_refuses (Ok true) h = tt
granted_refuses (Ok false) h = refl

both_refuse : (first next : Check) → Refuses first → Refuses next → Refuses (and_then first next)
both_refuse (Err error) next p q = p
both_refuse (Ok passed) next p q = q

-- a preflight names a method that is a token
method_refuses : (methods : Texts) (asked : Option (List ℕ)) → option_map_or is_token asked false ≡ true → Refuses (validate_method methods asked)
method_refuses methods None named = cc
method_refuses methods (Some method) named = rw named (either (holds methods method) (Ok tt) (Err MethodNotAllowed) tt refl)

value_refuses : (headers : Texts) (value : List ℕ) → Refuses (validate_value headers value)
value_refuses headers value =
    either (list_all is_visible_or_blank value) _ _
    (either (list_all is_item_name (items value)) _ _ (either (list_all (holds_item headers) (items value)) (Ok tt) (Err HeadersNotAllowed) tt refl) refl) refl

headers_refuse : (headers : AllOrSome Texts) (asked : Option (List ℕ)) → Refuses (validate_headers headers asked)
headers_refuse allowed.All asked = tt
headers_refuse (allowed.Some headers) None = tt
headers_refuse (allowed.Some headers) (Some value) = value_refuses headers value

preflight_refuses : {G : Type 0} (allows : Rules G) (policy : Policy G) (head : Head) → is_preflight head ≡ true → Refuses (preflight_check allows policy head)
unfolding is_preflight validate_allowed_method validate_allowed_headers
preflight_refuses allows policy head is =
    both_refuse _ _ (granted_refuses _ (origin_refuses allows policy head))
    (both_refuse _ _ (method_refuses policy.methods (asked_method head) (and_parts _ _ is).1) (headers_refuse policy.headers (asked_headers head)))

by_error : {A : Type 0} (r : Result A CorsError) (error : CorsError) → r ≡ Err error → Refuses r → refuses_requests error ≡ true
by_error (Ok passed) error is h = cc
by_error (Err other) error is h = let same : other ≡ error = cc in ap refuses_requests (sym same) ∙ h

pub preflight_error : {G : Type 0} (allows : Rules G) (policy : Policy G) (head : Head) (error : CorsError) → is_preflight head ≡ true
    → preflight_check allows policy head ≡ Err error → refuses_requests error ≡ true
preflight_error allows policy head error is refused = by_error _ error refused (preflight_refuses allows policy head is)

pub judged_error : {G : Type 0} (allows : Rules G) (policy : Policy G) (head : Head) (error : CorsError)
    → judged allows policy head ≡ Err error → refuses_requests error ≡ true
judged_error allows policy head error refused = by_error _ error refused (judged_refuses allows policy head)
