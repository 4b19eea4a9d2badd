-- Whether a text is a URI reference of a request target (RFC 9112, section 3.2, over RFC 3986), decided by its bytes.
-- The forms and the classes of bytes are those of the crate http_uri.
use Rattle.std.specs.Prelude.{ℕ, ◌-◌, ◌+◌, ◌==◌, nat_le, nat_lt, Bool, true, not, ◌&&◌, ◌||◌, if◌then◌else◌, List, [], ◌∷◌, ◌++◌, length, take, drop, slice_index, Option, codes, bytes_eq}
use Rattle.std.specs.List.{list_all}
use Rattle.std.specs.Option.{option_map_or}
use Rattle.std.specs.Str.{is_utf8}
use Rattle.http_uri.specs.ByteClasses.{is_authority_byte, is_path_byte, is_query_byte, is_delimiter, count_of, split_once_front, split_once_back, at_sign, colon, left_bracket, percent_sign, question_mark, right_bracket, slash}
use Rattle.http_uri.specs.Grammar.{IsUriText, authority_len, last_piece, scheme_len, without_fragment}

-- ---- the authority

-- whether a bracket or a colon may follow the front of an authority: one pair of brackets, seven colons in a piece at the most
abbrev pub mark_fits : List ℕ → ℕ → Bool
mark_fits front b =
    if b == colon then nat_lt (count_of colon (last_piece front)) 8
    else if b == left_bracket then (count_of left_bracket front == 0) && (count_of percent_sign (last_piece front) == 0)
    else if b == right_bracket then nat_lt 0 (count_of left_bracket front) && (count_of right_bracket front == 0)
    else true

abbrev pub may_follow : List ℕ → ℕ → Bool
may_follow front b = is_authority_byte b && mark_fits front b

-- whether each byte may follow those before it
abbrev pub all_follow : List ℕ → List ℕ → Bool
all_follow front [] = true
all_follow front (b ∷ rest) = may_follow front b && all_follow (front ++ b ∷ []) rest

-- userinfo, host and port
unfoldable pub is_authority : List ℕ → Bool
is_authority text =
    nat_lt 0 (length text) && (all_follow [] text
    && ((count_of left_bracket text == count_of right_bracket text)
    && (nat_le (count_of colon (last_piece text)) 1
    && ((count_of percent_sign (last_piece text) == 0)
    && not (slice_index text (length text - 1) == at_sign)))))

-- ---- the path and the query

-- whether a kept path begins as one: nothing, `*`, `/` or `?`
abbrev pub starts_kept : List ℕ → Bool
starts_kept text =
    (length text == 0) || (bytes_eq text (codes "*") || ((slice_index text 0 == slash) || (slice_index text 0 == question_mark)))

-- a path, and a query behind the first `?`
unfoldable pub is_path_and_query : List ℕ → Bool
is_path_and_query text =
    starts_kept text && (list_all is_path_byte (split_once_front question_mark text)
    && (option_map_or (list_all is_query_byte) (split_once_back question_mark text) true
    && (is_utf8 text && nat_le (length text) 65534)))

-- whether a text begins as a path, a query or a fragment
abbrev pub starts_path : List ℕ → Bool
starts_path text = bytes_eq text (codes "*") || is_delimiter (slice_index text 0)

-- a path and a query, and then a fragment, which may hold anything
unfoldable pub is_path_input : List ℕ → Bool
is_path_input text = starts_path text && (nat_le (length text) 65534 && is_path_and_query (without_fragment text))

-- ---- the forms

-- origin-form, or asterisk-form
abbrev pub is_origin_form : List ℕ → Bool
is_origin_form text = (bytes_eq text (codes "*") || (slice_index text 0 == slash)) && is_path_input text

-- authority-form
abbrev pub is_authority_form : List ℕ → Bool
is_authority_form text = is_authority text && not (bytes_eq text (codes "*"))

-- nothing, or a path behind the authority
abbrev pub is_tail : List ℕ → Bool
is_tail text = (length text == 0) || (is_delimiter (slice_index text 0) && is_path_input text)

-- an authority up to the first `/`, `?` or `#`, and what is behind it
abbrev pub is_hier_part : List ℕ → Bool
is_hier_part text = is_authority (take (authority_len text) text) && is_tail (drop (authority_len text) text)

-- absolute-form: a scheme of at most 64 bytes, `://`, and the rest
abbrev pub is_absolute_form : List ℕ → Bool
is_absolute_form text =
    nat_le (scheme_len text) 64 && (bytes_eq (take 3 (drop (scheme_len text) text)) (codes "://") && is_hier_part (drop (scheme_len text + 3) text))

-- whether the text is a URI
unfoldable pub is_uri : List ℕ → Bool
is_uri text = nat_le (length text) 65534 && (is_origin_form text || (is_authority_form text || is_absolute_form text))

-- the text spells some URI, as the crate http_uri promises
pub record IsUri (text : List ℕ) : Type 0 where
  pub scheme : Option (List ℕ)
  pub authority : Option (List ℕ)
  pub kept : List ℕ
  pub spelled : IsUriText text scheme authority kept
