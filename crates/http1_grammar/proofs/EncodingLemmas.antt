-- What an encoder of chunks writes is read as its data.
use Rattle.std.proofs.Common.{◌≡◌, ◌≤◌, ◌<◌, ◌+◌, ◌-◌, ◌^◌, ℕ, zero, suc, true, cond, List, [], ◌∷◌, ◌++◌, length, take, drop, map, arith, sym, ap, ◌∙◌, refl, Some, None, append_assoc, append-nil, length-append}
use Rattle.std.specs.Prelude.{codes, flat_map}
use Rattle.std.specs.Char.{digit_value, digit_char, is_ascii_hexdigit}
use Rattle.std.specs.List.{list_all, prefix_len, concat, AllByRecursion}
use Rattle.std.specs.Int.Digits.{digits_of, AllBelowBase, number_from_digits}
use Rattle.std.specs.Str.Parse.{digits_value}
use Rattle.std.proofs.Math.Seq.{take-append_seam, drop-append_seam, drop-append-add}
use Rattle.std.proofs.lemmas.Bool.{and_from, and_parts, lt-ltb, le-ltb, le-leb, ne_eqb}
use Rattle.std.proofs.lemmas.Bool.Decides.{nat_tests}
use Rattle.std.proofs.lemmas.Int.Digits.{number_digits_of, length-digits_of-le, length-digits_of_step, all_below_base_digits_of, digits_value_is}
use Rattle.std.proofs.lemmas.List.{take_all, drop_all, length-map}
use Rattle.httparse.specs.Grammar.{crlf}
use Rattle.http1_grammar.specs.Limits.{Limits}
use Rattle.http1_grammar.specs.Lines.{line_text, line_end, cut_at, empty_line, head_len, or_else}
use Rattle.http1_grammar.specs.Head.{Head}
use Rattle.http1_grammar.specs.Framing.{chunked, framing}
use Rattle.http1_grammar.specs.Body.{whole, is_crlf, size_by, size_of, chunk_size, chunk, last, sized_chunk, chunk_by, by_line, piece, trailer_by, trailer, after_piece, chunks, body_by, body}
use Rattle.http1_grammar.specs.Encoding.{hexadecimal, encoded_chunk, encoded, IsCarried}
use Rattle.http1_grammar.proofs.LineLemmas.{is_not, has_no, line_text_of, line_end_of, cut_at_finds}
use Rattle.http1_grammar.proofs.StepLemmas.{take_past}
use Rattle.http1_grammar.proofs.AnswerLemmas.{chunks_step}

-- ---- hexadecimal digits

value_of_char : (d : ℕ) → d < 36 → digit_value (digit_char d) ≡ d
value_of_char d small = grind (arith, nat_tests)

hexdigit_char : (d : ℕ) → d < 16 → is_ascii_hexdigit (digit_char d) ≡ true
hexdigit_char d small = grind (arith, nat_tests)

not_lf : (c : ℕ) → is_ascii_hexdigit c ≡ true → is_not 10 c ≡ true
not_lf c h = grind (arith, nat_tests)

not_cr : (c : ℕ) → is_ascii_hexdigit c ≡ true → is_not 13 c ≡ true
not_cr c h = grind (arith, nat_tests)

values : (ds : List ℕ) → AllBelowBase 16 ds → map digit_value (map digit_char ds) ≡ ds
values [] below = refl
values (d ∷ ds) below = let here = value_of_char d (omega (arith, below.0)) in let later = values ds below.1 in λ i. here i ∷ later i

hexdigits : (ds : List ℕ) → AllBelowBase 16 ds → list_all is_ascii_hexdigit (map digit_char ds) ≡ true
hexdigits [] below = refl
hexdigits (d ∷ ds) below = and_from _ _ (hexdigit_char d below.0) (hexdigits ds below.1)

no_lf : (text : List ℕ) → list_all is_ascii_hexdigit text ≡ true → has_no 10 text ≡ true
no_lf [] h = refl
no_lf (c ∷ text) h = let parts = and_parts _ _ h in and_from _ _ (not_lf c parts.0) (no_lf text parts.1)

no_cr : (text : List ℕ) → list_all is_ascii_hexdigit text ≡ true → has_no 13 text ≡ true
no_cr [] h = refl
no_cr (c ∷ text) h = let parts = and_parts _ _ h in and_from _ _ (not_cr c parts.0) (no_cr text parts.1)

-- the text writes the number in 1 to 16 hexadecimal digits
record Writes (number : ℕ) (text : List ℕ) : Type 0 where
  pub some : 0 < length text
  pub few : length text ≤ 16
  pub digits : list_all is_ascii_hexdigit text ≡ true
  pub value : digits_value 16 text ≡ number

hexadecimal_writes : (number : ℕ) → 0 < number → number < 16 ^ 16 → Writes number (hexadecimal number)
hexadecimal_writes number some below =
    let ds = digits_of 16 number in
    let base = all_below_base_digits_of 16 number (omega arith) in
    record {
      some = omega (arith, length-map ds digit_char, length-digits_of_step 16 number (omega arith) some);
      few = omega (arith, length-map ds digit_char, length-digits_of-le 16 16 number (omega arith) below);
      digits = hexdigits ds base;
      value = digits_value_is 16 (map digit_char ds) ∙ ap (number_from_digits 16) (values ds base) ∙ number_digits_of 16 number (omega arith);
    }

-- ---- a chunk line

one_more : (n m : ℕ) → n ≡ m → 1 + n ≡ suc m
one_more n m e = omega (arith, e)

all_digits : (text : List ℕ) → list_all is_ascii_hexdigit text ≡ true → prefix_len is_ascii_hexdigit text ≡ length text
all_digits [] h = refl
all_digits (c ∷ text) h =
    let parts = and_parts (is_ascii_hexdigit c) (list_all is_ascii_hexdigit text) h in
    ap (λ v. cond v (1 + prefix_len is_ascii_hexdigit text) 0) parts.0
    ∙ one_more (prefix_len is_ascii_hexdigit text) (length text) (all_digits text parts.1)

size_read : (number : ℕ) (text : List ℕ) → Writes number text → size_of text ≡ Some number
size_read number text w =
    ap (λ k. size_by (take k text) (drop k text)) (all_digits text w.digits)
    ∙ ap (λ x. size_by x (drop (length text) text)) (take_all (length text) text (omega arith))
    ∙ ap (size_by text) (drop_all (length text) text (omega arith))
    ∙ rw (lt-ltb 0 (length text) w.some, le-leb (length text) 16 w.few) (ap (λ v. Some v) w.value)

line_size : (number : ℕ) (text : List ℕ) → Writes number text → chunk_size (text ++ (13 ∷ [])) ≡ Some number
unfolding chunk_size
line_size number text w =
    ap (λ e. cond (is_crlf e) (size_of (line_text (text ++ (13 ∷ [])))) None) (line_end_of text crlf (no_cr text w.digits))
    ∙ ap size_of (line_text_of text crlf (no_cr text w.digits))
    ∙ size_read number text w

zero_size : chunk_size (48 ∷ 13 ∷ []) ≡ Some 0
unfolding chunk_size line_end line_text
zero_size = refl

has_no_more : (text : List ℕ) → has_no 10 text ≡ true → has_no 10 (text ++ (13 ∷ [])) ≡ true
has_no_more [] h = refl
has_no_more (c ∷ text) h = let parts = and_parts _ _ h in and_from _ _ parts.0 (has_no_more text parts.1)

cut_line : (most : ℕ) (line rest : List ℕ) → has_no 10 line ≡ true → length line < most
    → cut_at 10 (take most (line ++ (10 ∷ rest))) ≡ Some (line, take (most - suc (length line)) rest)
cut_line most line rest h l =
    let k : most - length line ≡ suc (most - suc (length line)) = omega arith in
    ap (cut_at 10) (take_past most line (10 ∷ rest) (omega arith) ∙ ap (λ n. line ++ take n (10 ∷ rest)) k)
    ∙ cut_at_finds 10 line (take (most - suc (length line)) rest) h

-- the piece behind a line of so few bytes with this size
line_piece : (room number : ℕ) (text rest : List ℕ) → has_no 10 text ≡ true → length text ≤ 16 → chunk_size (text ++ (13 ∷ [])) ≡ Some number
    → piece room ((text ++ (13 ∷ [])) ++ (10 ∷ rest)) ≡ chunk_by room rest (Some number)
unfolding piece
line_piece room number text rest h l size =
    let line = text ++ (13 ∷ []) in
    ap (by_line room (line ++ (10 ∷ rest))) (cut_line 256 line rest (has_no_more text h) (omega (arith, length-append text (13 ∷ []))))
    ∙ ap (λ bytes. chunk_by room bytes (chunk_size line)) (drop-append-add line (10 ∷ rest) 1)
    ∙ ap (chunk_by room rest) size

-- ---- a chunk

sized_read : (bytes rest : List ℕ) → sized_chunk (length bytes) (bytes ++ (13 ∷ 10 ∷ rest)) ≡ chunk bytes rest
sized_read bytes rest =
    let tail = 13 ∷ 10 ∷ rest in
    rw (
      le-ltb (length (bytes ++ tail)) (length bytes + 2) (omega (arith, length-append bytes tail)),
      drop-append_seam bytes tail,
      take-append_seam bytes tail,
      drop-append-add bytes tail 2,
    ) refl

chunk_text : (digits bytes rest : List ℕ)
    → (((digits ++ (13 ∷ 10 ∷ [])) ++ bytes) ++ (13 ∷ 10 ∷ [])) ++ rest ≡ (digits ++ (13 ∷ [])) ++ (10 ∷ (bytes ++ (13 ∷ 10 ∷ rest)))
chunk_text [] bytes rest = ap (λ x. 13 ∷ 10 ∷ x) (append_assoc bytes (13 ∷ 10 ∷ []) rest)
chunk_text (d ∷ digits) bytes rest = ap (λ x. d ∷ x) (chunk_text digits bytes rest)

chunk_read : (room : ℕ) (bytes rest : List ℕ) → IsCarried bytes → length bytes ≤ room → piece room (encoded_chunk bytes ++ rest) ≡ chunk bytes rest
chunk_read room bytes rest carried l =
    let number = length bytes in
    let tail = bytes ++ (13 ∷ 10 ∷ rest) in
    let w = hexadecimal_writes number carried.0 carried.1 in
    ap (piece room) (chunk_text (hexadecimal number) bytes rest)
    ∙ line_piece room number (hexadecimal number) tail (no_lf (hexadecimal number) w.digits) w.few (line_size number (hexadecimal number) w)
    ∙ rw (le-ltb room number l, ne_eqb number 0 (λ e. let k = carried.0 in omega arith)) (sized_read bytes rest)

-- ---- the end of a body

last_read : (room : ℕ) (rest : List ℕ) → piece room (codes "0\r\n\r\n" ++ rest) ≡ last (13 ∷ 10 ∷ rest)
last_read room rest =
    line_piece room 0 (48 ∷ []) (13 ∷ 10 ∷ rest) refl (omega arith) zero_size
    ∙ rw (le-ltb room 0 (omega arith)) refl

empty_read : (limit : ℕ) (rest : List ℕ) → 2 ≤ limit → empty_line (take limit (13 ∷ 10 ∷ rest)) ≡ Some 2
empty_read zero rest l = absurd (omega arith)
empty_read (suc zero) rest l = absurd (omega arith)
empty_read (suc (suc limit)) rest l = refl

trailer_read : (limits : Limits) (before rest : List ℕ) → 2 ≤ limits.head → trailer limits before (13 ∷ 10 ∷ rest) ≡ whole before rest
unfolding trailer
trailer_read limits before rest l =
    let bytes = 13 ∷ 10 ∷ rest in
    ap (λ o. trailer_by limits before bytes (or_else o (head_len (take limits.head bytes)))) (empty_read limits.head rest l)

-- ---- a body

pub chunks_read : (limits : Limits) (before : List ℕ) (pieces : List (List ℕ)) (rest : List ℕ) → 2 ≤ limits.head → AllByRecursion IsCarried pieces
    → length before + length (concat pieces) ≤ limits.body → chunks limits before (encoded pieces ++ rest) ≡ whole (before ++ concat pieces) rest
chunks_read limits before [] rest h all l =
    chunks_step limits before (encoded [] ++ rest)
    ∙ ap (after_piece limits (chunks limits) before) (last_read (limits.body - length before) rest)
    ∙ trailer_read limits before rest h
    ∙ ap (λ x. whole x rest) (sym (append-nil before))
chunks_read limits before (p ∷ pieces) rest h all l =
    let sizes = length-append p (concat pieces) in
    ap (λ x. chunks limits before x) (chunk_first p pieces rest)
    ∙ chunks_step limits before (encoded_chunk p ++ (encoded pieces ++ rest))
    ∙ ap (after_piece limits (chunks limits) before) (chunk_read (limits.body - length before) p (encoded pieces ++ rest) all.0 (omega arith))
    ∙ chunks_read limits (before ++ p) pieces rest h all.1 (omega (arith, length-append before p))
    ∙ ap (λ x. whole x rest) (append_assoc before p (concat pieces))
  where
    chunk_first : (q : List ℕ) (qs : List (List ℕ)) (more : List ℕ) → encoded (q ∷ qs) ++ more ≡ encoded_chunk q ++ (encoded qs ++ more)
    chunk_first q qs more =
        ap (λ x. x ++ more) (append_assoc (encoded_chunk q) (flat_map encoded_chunk qs) (codes "0\r\n\r\n"))
        ∙ append_assoc (encoded_chunk q) (encoded qs) more

pub encoded_read : (limits : Limits) (head : Head) (pieces : List (List ℕ)) (rest : List ℕ) → framing head ≡ chunked → AllByRecursion IsCarried pieces
    → length (concat pieces) ≤ limits.body → 2 ≤ limits.head → body limits head (encoded pieces ++ rest) ≡ whole (concat pieces) rest
unfolding body
encoded_read limits head pieces rest f all l h =
    ap (body_by limits (encoded pieces ++ rest)) f ∙ chunks_read limits [] pieces rest h all (omega (arith, l))
