-- Bytes that may stand in a header's value.
use Rattle.std.proofs.Common.{◌≡◌, ◌≤◌, ◌<◌, ◌+◌, ◌^◌, ◌%◌, ℕ, true, List, [], ◌∷◌, arith, refl, decimal, slice_index_or}
use Rattle.std.specs.Prelude.{IsTrue}
use Rattle.std.specs.List.{list_all}
use Rattle.std.specs.Char.{to_ascii_lowercase}
use Rattle.std.proofs.lemmas.Bool.{ne_eqb, and_parts, leb-true}
use Rattle.std.proofs.lemmas.List.Sums.{AllPass-from_list_all}
use Rattle.std.proofs.lemmas.List.Elements.{All-map, All-append}
use Rattle.std.proofs.lemmas.Fmt.{decimal_by_steps}
use Rattle.http_header.specs.Token.{is_token_byte, lowercase}
use Rattle.http_header.specs.FieldName.{IsHeaderName}
use Rattle.http_header.proofs.TokenLemmas.{token_byte_range, is_token_byte-to_ascii_lowercase}
use Rattle.http1_plain.specs.Fields.{is_field_byte, IsValue}
use Rattle.cors_rules.specs.Building.{is_origin_byte}

above : (b : ℕ) → 14 ≤ b → IsTrue (is_field_byte b)
above b h = rw (ne_eqb b 13 (omega arith), ne_eqb b 10 (omega arith), ne_eqb b 0 (omega arith)) refl

of_token : (b : ℕ) → IsTrue (is_token_byte b) → IsTrue (is_field_byte b)
of_token b h = above b (omega (arith, (token_byte_range b h).0))

of_origin : (b : ℕ) → IsTrue (is_origin_byte b) → IsTrue (is_field_byte b)
of_origin b h = above b (omega (arith, leb-true 32 b (and_parts _ _ h).0))

-- bytes that pass the test
pub values_of : (bytes : List ℕ) → list_all is_field_byte bytes ≡ true → IsValue bytes
values_of bytes h = AllPass-from_list_all is_field_byte bytes h

pub token_is_value : (bytes : List ℕ) → list_all is_token_byte bytes ≡ true → IsValue bytes
token_is_value bytes h = λ k d l. of_token _ (AllPass-from_list_all is_token_byte bytes h k d l)

pub name_is_value : (bytes : List ℕ) → IsHeaderName bytes → IsValue bytes
name_is_value bytes h = λ k d l. of_token _ (h.0.0.1 k d l)

pub origin_is_value : (bytes : List ℕ) → list_all is_origin_byte bytes ≡ true → IsValue bytes
origin_is_value bytes h = λ k d l. of_origin (slice_index_or bytes k d) (AllPass-from_list_all is_origin_byte bytes h k d l)

pub lowered_is_value : (bytes : List ℕ) → list_all is_token_byte bytes ≡ true → IsValue (lowercase bytes)
lowered_is_value bytes h =
    All-map (λ b. IsTrue (is_field_byte b)) to_ascii_lowercase bytes
    (λ k d l. of_token _ (is_token_byte-to_ascii_lowercase _ (AllPass-from_list_all is_token_byte bytes h k d l)))

digit_is_value : (n : ℕ) → IsValue ((48 + n) ∷ [])
digit_is_value n = values_of ((48 + n) ∷ []) (rw (above (48 + n) (omega arith)) refl)

pub decimal_is_value : (n : ℕ) → n < 2 ^ 64 → IsValue (decimal n)
decimal_is_value n l =
    decimal_by_steps (λ n ds. IsValue ds) (λ n l. digit_is_value n)
    (λ n ds l h. All-append (λ b. IsTrue (is_field_byte b)) ds ((48 + n % 10) ∷ []) h (digit_is_value (n % 10)))
    n l
