-- What the fields of a name say.
use Rattle.std.proofs.Common.{◌≡◌, ℕ, true, false, List, [], ◌∷◌, map, sym, ap, ◌∙◌, refl, Bor, codes}
use Rattle.std.specs.Prelude.{◌==◌, bytes_eq}
use Rattle.std.specs.List.{list_any, filter, slice_split}
use Rattle.http_header.specs.Token.{lowercase}
use Rattle.httparse.specs.Ascii.{comma}
use Rattle.httparse.specs.Grammar.{trim_ows}
use Rattle.http1_grammar.specs.Headers.{Header, is_named}
use Rattle.http1_grammar.specs.Head.{Head}
use Rattle.http1_grammar.specs.Tokens.{connection_options, names_token, expects}
use Rattle.http_plain.proofs.PlainSteps.{kept, values, values_are}

options_are : (parts : List (Bor (List ℕ))) → map (λ (part : Bor (List ℕ)). lowercase (trim_ows part.now)) parts
    ≡ map (λ (option : List ℕ). lowercase (trim_ows option)) (map (λ (part : Bor (List ℕ)). part.now) parts)
options_are [] = refl
options_are (part ∷ parts) = ap (λ options. lowercase (trim_ows part.now) ∷ options) (options_are parts)

pub listed : (token value : List ℕ) (parts same : List (Bor (List ℕ))) → same ≡ parts
    → map (λ (part : Bor (List ℕ)). part.now) parts ≡ slice_split (λ b. b == comma) value
    → list_any (bytes_eq token) (map (λ (part : Bor (List ℕ)). lowercase (trim_ows part.now)) same) ≡ list_any (bytes_eq token) (connection_options value)
listed token value parts same e h =
    ap (list_any (bytes_eq token)) (ap (map (λ (part : Bor (List ℕ)). lowercase (trim_ows part.now))) e ∙ options_are parts
    ∙ ap (map (λ (option : List ℕ). lowercase (trim_ows option))) h)

module _ (head : Head) (headers : List Header) (fields same : List (Bor Header)) (all : headers ≡ head.headers) (e : same ≡ fields) where
  pub named : (token : List ℕ) → kept fields ≡ filter (is_named (codes "connection")) headers
      → list_any (λ (value : List ℕ). list_any (bytes_eq token) (connection_options value)) (values same) ≡ names_token head token
  unfolding names_token
  named token h =
      ap (λ vs. list_any (λ (value : List ℕ). list_any (bytes_eq token) (connection_options value)) vs)
      (ap values e ∙ sym (values_are headers (codes "connection") fields h))
      ∙ ap (λ hs. names_token (record head { headers = hs }) token) all

  pub expected : (head.minor == 1) ≡ true → kept fields ≡ filter (is_named (codes "expect")) headers
      → list_any (λ (value : List ℕ). bytes_eq (lowercase value) (codes "100-continue")) (values same) ≡ expects head
  unfolding expects
  expected m h =
      ap (λ vs. list_any (λ (value : List ℕ). bytes_eq (lowercase value) (codes "100-continue")) vs)
      (ap values e ∙ sym (values_are headers (codes "expect") fields h) ∙ ap (λ hs. map (λ (h : Header). h.1) (filter (is_named (codes "expect")) hs)) all)
      ∙ rw m refl

pub unexpected : (head : Head) → (head.minor == 1) ≡ false → false ≡ expects head
unfolding expects
unexpected head m = rw m refl
