-- Steps of reading a body in chunks.
use Rattle.std.proofs.Common.{◌≡◌, ◌≤◌, ◌<◌, ◌+◌, ◌-◌, ◌*◌, ◌^◌, ℕ, zero, suc, true, false, cond, List, [], ◌∷◌, length, get_or, take, drop, min, add-one, arith, sym, ap, ◌∙◌, refl, Option, Some, None, length-take}
use Rattle.std.proofs.Math.Nat.{pow-suc, pow-le-pow_right}
use Rattle.std.specs.List.{list_all, prefix_len}
use Rattle.std.specs.Char.{is_ascii_hexdigit, digit_value}
use Rattle.std.specs.Str.Parse.{digits_value, digits_value_after}
use Rattle.std.proofs.lemmas.Bool.{and_from, le-leb, lt-leb}
use Rattle.std.proofs.lemmas.List.{at_drop_more, at_drop_all, take_min}
use Rattle.http1_grammar.specs.Limits.{Limits}
use Rattle.http1_grammar.specs.Lines.{line_end, cut_at}
use Rattle.http1_grammar.specs.Body.{unfinished, malformed, refused, undecided, chunk_by, chunk_size, by_line, piece, trailer_by, trailer, after_piece, chunks_within}
use Rattle.http1_grammar.proofs.BodyLemmas.{trailer_len}
use Rattle.http_plain.specs.declared.piece.Piece.{Piece}
use Rattle.http_plain.specs.HandedOn.{piece_of}

-- ---- a chunk line

pub end_more : (line : List ℕ) → 2 ≤ length line → line_end (drop 1 line) ≡ line_end line
unfolding line_end
end_more [] l = absurd (omega arith)
end_more (b ∷ []) l = absurd (omega arith)
end_more (b ∷ c ∷ line) l = refl

-- the number so far, and the digits behind it
abbrev pub HexFrom : List ℕ → ℕ → ℕ → Type 0
HexFrom digits i n = digits_value_after 16 n (drop i digits) ≡ digits_value 16 digits

pub hex_more : (digits : List ℕ) (i n d : ℕ) → i < length digits → d ≡ digit_value (get_or digits i 0) → HexFrom digits i n
    → HexFrom digits (i + 1) (n * 16 + d)
hex_more digits i n d l e before =
    ap (λ m. digits_value_after 16 (n * 16 + m) (drop (i + 1) digits)) e
    ∙ sym (at_drop_more (digits_value_after 16 n) digits i 0 l) ∙ before

pub hex_end : (digits : List ℕ) (i n : ℕ) → length digits ≤ i → HexFrom digits i n → n ≡ digits_value 16 digits
hex_end digits i n l before = sym (at_drop_all (digits_value_after 16 n) digits i l) ∙ before

pub hex_below : (n d i : ℕ) → n < 16 ^ i → d < 16 → n * 16 + d < 16 ^ (i + 1)
hex_below n d i l k = rw (add-one, pow-suc 16 i) (omega arith)

top : 16 ^ 15 ≡ 1152921504606846976
top = refl

-- one digit more fits
pub hex_fits : (n i len : ℕ) → n < 16 ^ i → i < len → len ≤ 16 → n * 16 + 15 < 18446744073709551616
hex_fits n i len l k m =
    let most = pow-le-pow_right {n = 16} (omega arith) {i = i} {j = 15} (omega arith) in omega (arith, most, top)

-- how many digits there are: those before the place, and those behind it
abbrev pub CountsFrom : List ℕ → ℕ → Type 0
CountsFrom text at = prefix_len is_ascii_hexdigit text ≡ at + prefix_len is_ascii_hexdigit (drop at text)

pub digits_are : (text : List ℕ) → list_all is_ascii_hexdigit (take (prefix_len is_ascii_hexdigit text) text) ≡ true
digits_are [] = refl
digits_are (b ∷ text) =
    elim (is_ascii_hexdigit b) as (λ v. is_ascii_hexdigit b ≡ v → list_all is_ascii_hexdigit (take (cond v (1 + prefix_len is_ascii_hexdigit text) 0) (b ∷ text)) ≡ true) [
      | true ↦ λ e. ap (λ n. list_all is_ascii_hexdigit (take n (b ∷ text))) (one_more (prefix_len is_ascii_hexdigit text))
          ∙ and_from (is_ascii_hexdigit b) (list_all is_ascii_hexdigit (take (prefix_len is_ascii_hexdigit text) text)) e (digits_are text)
      | false ↦ λ e. refl
    ] refl
  where
    one_more : (n : ℕ) → 1 + n ≡ suc n
    one_more n = omega arith

-- ---- a piece

module _ (room : ℕ) (bytes : List ℕ) (m : ℕ) (window : m ≡ min 256 (length bytes)) where
  line_is : (o : Option (List ℕ × List ℕ)) → o ≡ cut_at 10 (take m bytes) → by_line room bytes o ≡ piece room bytes
  unfolding piece
  line_is o h = ap (by_line room bytes) (h ∙ ap (cut_at 10) (ap (λ n. take n bytes) window ∙ take_min 256 bytes))

  pub line_found : (at : ℕ) → at < length (take m bytes)
      → Some (take at (take m bytes), drop (at + 1) (take m bytes)) ≡ cut_at 10 (take m bytes)
      → chunk_by room (drop (at + 1) bytes) (chunk_size (take at (take m bytes))) ≡ piece room bytes
  line_found at l h =
      let size : length (take at (take m bytes)) ≡ at = omega (arith, length-take at (take m bytes)) in
      ap (λ n. chunk_by room (drop (n + 1) bytes) (chunk_size (take at (take m bytes)))) (sym size)
      ∙ line_is (Some (take at (take m bytes), drop (at + 1) (take m bytes))) h

  pub line_long : None ≡ cut_at 10 (take m bytes) → 256 ≤ length bytes → refused 400 ≡ piece room bytes
  line_long h l = sym (rw (le-leb 256 (length bytes) l) refl) ∙ line_is None h

  pub line_open : None ≡ cut_at 10 (take m bytes) → length bytes < 256 → undecided ≡ piece room bytes
  line_open h l = sym (rw (lt-leb 256 (length bytes) l) refl) ∙ line_is None h

-- ---- the trailer part

module _ (limits : Limits) (content bytes : List ℕ) (m most : ℕ) (limit : most ≡ limits.head) (window : m ≡ min most (length bytes)) where
  pub trailer_is : (o : Option ℕ) → o ≡ trailer_len (take m bytes) → trailer_by limits content bytes o ≡ trailer limits content bytes
  unfolding trailer
  trailer_is o h =
      ap (trailer_by limits content bytes) (h ∙ ap trailer_len (ap (λ n. take n bytes) (window ∙ ap (λ n. min n (length bytes)) limit) ∙ take_min limits.head bytes))

  pub trailer_long : None ≡ trailer_len (take m bytes) → most ≤ length bytes → malformed 431 ≡ trailer limits content bytes
  trailer_long h l = sym (rw (le-leb limits.head (length bytes) (omega (arith, limit))) refl) ∙ trailer_is None h

  pub trailer_open : None ≡ trailer_len (take m bytes) → length bytes < most → unfinished ≡ trailer limits content bytes
  trailer_open h l = sym (rw (lt-leb limits.head (length bytes) (omega (arith, limit))) refl) ∙ trailer_is None h

-- ---- chunks

pub no_count : (count : ℕ) (limits : Limits) (content bytes : List ℕ) → count ≡ 0 → unfinished ≡ chunks_within count limits content bytes
unfolding chunks_within
no_count count limits content bytes e = rw e refl

counted : (count : ℕ) (limits : Limits) (content bytes : List ℕ) → (count ≡ 0 → ⊥)
    → after_piece limits (chunks_within (count - 1) limits) content (piece (limits.body - length content) bytes) ≡ chunks_within count limits content bytes
unfolding chunks_within
counted zero limits content bytes n = absurd (n refl)
counted (suc count) limits content bytes n = rw (one_less count) refl
  where
    one_less : (n : ℕ) → suc n - 1 ≡ n
    one_less n = omega arith

pub by_piece : (count most room : ℕ) (limits : Limits) (content bytes : List ℕ) (found : Piece) → (count ≡ 0 → ⊥)
    → most ≡ limits.body → room ≡ most - length content → piece_of found ≡ piece room bytes
    → after_piece limits (chunks_within (count - 1) limits) content (piece_of found) ≡ chunks_within count limits content bytes
by_piece count most room limits content bytes found n b r h =
    ap (after_piece limits (chunks_within (count - 1) limits) content) (h ∙ ap (λ k. piece k bytes) (r ∙ ap (λ k. k - length content) b))
    ∙ counted count limits content bytes n
