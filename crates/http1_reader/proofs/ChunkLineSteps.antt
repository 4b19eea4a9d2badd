-- The steps of reading a chunk line.
use Rattle.std.proofs.Common.{◌≡◌, ◌≤◌, ◌<◌, ◌+◌, ◌-◌, ◌*◌, ℕ, zero, suc, true, false, cond, List, [], ◌∷◌, length, get_or, take, drop, arith, sym, ap, ◌∙◌, refl, nat_lt}
use Rattle.std.specs.Prelude.{◌==◌}
use Rattle.std.specs.List.{list_all, prefix_len}
use Rattle.std.specs.Char.{is_ascii_hexdigit, digit_value}
use Rattle.std.specs.Str.Parse.{digits_value, digits_value_after}
use Rattle.std.proofs.lemmas.Bool.{and_from, lt-ltb, eq-eqb, ne_eqb}
use Rattle.std.proofs.lemmas.List.{at_drop_more, at_drop_all}
use Rattle.std.proofs.lemmas.List.Sums.{AllPass-from_list_all, prefix_len-drop_yes, prefix_len-drop_no, prefix_len-drop_all}
use Rattle.httparse.specs.Grammar.{crlf, lf}
use Rattle.http1_grammar.specs.Lines.{line_text, line_end}
use Rattle.http1_grammar.specs.Body.{size_of, chunk_size}
use Rattle.http1_reader.specs.declared.chunk_line.ChunkLine.TheVariants.{Bad}
use Rattle.http1_reader.specs.Pieces.{line_by}

-- ---- digits

pub hex_at : (digits : List ℕ) (i : ℕ) → i < length digits → list_all is_ascii_hexdigit digits ≡ true
    → is_ascii_hexdigit (get_or digits i 0) ≡ true
hex_at digits i l h = AllPass-from_list_all is_ascii_hexdigit digits h i 0 l

value_grows : (digits : List ℕ) (n : ℕ) → n ≤ digits_value_after 16 n digits
value_grows [] n = omega arith
value_grows (d ∷ digits) n = let more = value_grows digits (n * 16 + digit_value d) in omega arith

-- the number so far, and the digits behind it
abbrev pub HexFrom : List ℕ → ℕ → ℕ → Type 0
HexFrom digits i n = digits_value_after 16 n (drop i digits) ≡ digits_value 16 digits

pub hex_more : (digits : List ℕ) (i n : ℕ) → i < length digits → HexFrom digits i n
    → HexFrom digits (i + 1) (n * 16 + digit_value (get_or digits i 0))
hex_more digits i n l before = sym (at_drop_more (digits_value_after 16 n) digits i 0 l) ∙ before

pub hex_end : (digits : List ℕ) (i n : ℕ) → length digits ≤ i → HexFrom digits i n → n ≡ digits_value 16 digits
hex_end digits i n l before = sym (at_drop_all (digits_value_after 16 n) digits i l) ∙ before

pub hex_above : (digits : List ℕ) (i n most : ℕ) → most < n → HexFrom digits i n → nat_lt most (digits_value 16 digits) ≡ true
hex_above digits i n most l before =
    lt-ltb most _ (let grows = value_grows (drop i digits) n in omega (arith, before))

-- how many digits there are: those before the place, and those behind it
abbrev pub CountsFrom : List ℕ → ℕ → Type 0
CountsFrom text at = prefix_len is_ascii_hexdigit text ≡ at + prefix_len is_ascii_hexdigit (drop at text)

pub count_more : (text : List ℕ) (at : ℕ) → at < length text → is_ascii_hexdigit (get_or text at 0) ≡ true → CountsFrom text at → CountsFrom text (at + 1)
count_more text at l e before = omega (arith, before, prefix_len-drop_yes is_ascii_hexdigit text at 0 l e)

pub count_stops : (text : List ℕ) (at : ℕ) → at < length text → is_ascii_hexdigit (get_or text at 0) ≡ false → CountsFrom text at → at ≡ prefix_len is_ascii_hexdigit text
count_stops text at l e before = omega (arith, before, prefix_len-drop_no is_ascii_hexdigit text at 0 l e)

pub count_ends : (text : List ℕ) (at : ℕ) → length text ≤ at → CountsFrom text at → at ≡ prefix_len is_ascii_hexdigit text
count_ends text at l before = omega (arith, before, prefix_len-drop_all is_ascii_hexdigit text at l)

pub digits_are : (text : List ℕ) → list_all is_ascii_hexdigit (take (prefix_len is_ascii_hexdigit text) text) ≡ true
digits_are [] = refl
digits_are (b ∷ text) =
    elim (is_ascii_hexdigit b) as (λ v. is_ascii_hexdigit b ≡ v → list_all is_ascii_hexdigit (take (cond v (1 + prefix_len is_ascii_hexdigit text) 0) (b ∷ text)) ≡ true) [
      | true ↦ λ e. ap (λ n. list_all is_ascii_hexdigit (take n (b ∷ text))) (one_more (prefix_len is_ascii_hexdigit text))
          ∙ and_from (is_ascii_hexdigit b) (list_all is_ascii_hexdigit (take (prefix_len is_ascii_hexdigit text) text)) e (digits_are text)
      | false ↦ λ e. refl
    ] refl
  where
    one_more : (n : ℕ) → 1 + n ≡ suc n
    one_more n = omega arith

-- ---- a line

-- the line ends in a CR
cr_line : (line : List ℕ) (n : ℕ) → length line ≡ n + 1 → (get_or line n 0 == 13) ≡ true
    → (line_text line ≡ take n line) × (line_end line ≡ crlf)
unfolding line_text line_end
cr_line [] n l h = absurd (omega arith)
cr_line (b ∷ []) zero l h = (rw h refl, rw h refl)
cr_line (b ∷ []) (suc n) l h = absurd (omega arith)
cr_line (b ∷ c ∷ line) zero l h = absurd (omega arith)
cr_line (b ∷ c ∷ line) (suc n) l h =
    let w = cr_line (c ∷ line) n (omega arith) h in (ap (λ x. b ∷ x) w.0, w.1)

other_line : (line : List ℕ) (n : ℕ) → length line ≡ n + 1 → (get_or line n 0 == 13) ≡ false → line_end line ≡ lf
unfolding line_end
other_line [] n l h = absurd (omega arith)
other_line (b ∷ []) zero l h = rw h refl
other_line (b ∷ []) (suc n) l h = absurd (omega arith)
other_line (b ∷ c ∷ line) zero l h = absurd (omega arith)
other_line (b ∷ c ∷ line) (suc n) l h = other_line (c ∷ line) n (omega arith) h

pub with_cr : (line : List ℕ) → 0 < length line → get_or line (length line - 1) 0 ≡ 13
    → size_of (take (length line - 1) line) ≡ chunk_size line
unfolding chunk_size
with_cr line l h =
    let w = cr_line line (length line - 1) (omega arith) (eq-eqb (get_or line (length line - 1) 0) 13 h) in
    rw (w.1, w.0) refl

pub without_cr : (room : ℕ) (line : List ℕ) → 0 < length line → (get_or line (length line - 1) 0 ≡ 13 → ⊥) → Bad ≡ line_by room (chunk_size line)
unfolding chunk_size
without_cr room line l h = rw (other_line line (length line - 1) (omega arith) (ne_eqb (get_or line (length line - 1) 0) 13 h)) refl

pub no_line : (room : ℕ) (line : List ℕ) → length line ≡ 0 → Bad ≡ line_by room (chunk_size line)
unfolding chunk_size line_end
no_line room [] l = refl
no_line room (b ∷ line) l = absurd (omega arith)
