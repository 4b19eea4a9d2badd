-- The steps of the loops that look for line ends.
use Rattle.std.proofs.Common.{◌≡◌, ◌≤◌, ◌<◌, ◌+◌, ◌-◌, ℕ, List, [], length, get_or, take, drop, arith, sym, ap, ◌∙◌, subst, zero, suc, true, false, cond, ◌∷◌, Some, None, refl, Bool, ◌&&◌}
use Rattle.std.proofs.Math.Seq.{take-add}
use Rattle.std.proofs.lemmas.List.{drop-drop, take_rest, get_or-drop, at_drop_more, at_drop_all}
use Rattle.std.proofs.lemmas.Bool.{eq-eqb, ne_eqb}
use Rattle.std.specs.Prelude.{◌==◌, count_by}
use Rattle.std.proofs.lemmas.List.Sums.{sum_by-append, count_by_more_no, count_by_more_yes}
use Rattle.http1_grammar.specs.Lines.{is_line_feed, empty_line, skip_empty_lines, head_len}
use Rattle.http1_grammar.proofs.ScanLemmas.{skip_more, skip_none, shifted, shifted_suc, head_len_other, head_len_open, head_len_ends}

-- the bytes of a slice up to the end
abbrev pub from : ℕ → List ℕ → List ℕ
from i bytes = take (length bytes - i) (drop i bytes)

pub skip_step : (bytes : List ℕ) (at n : ℕ) → Some n ≡ empty_line (from at bytes)
    → skip_empty_lines (drop at bytes) ≡ skip_empty_lines bytes
    → skip_empty_lines (drop (at + n) bytes) ≡ skip_empty_lines bytes
skip_step bytes at n h before =
    ap skip_empty_lines (sym (drop-drop n at bytes))
    ∙ sym (skip_more (drop at bytes) n (ap empty_line (sym (take_rest bytes at)) ∙ sym h)) ∙ before

pub skip_end : (bytes : List ℕ) (at : ℕ) → None ≡ empty_line (from at bytes)
    → skip_empty_lines (drop at bytes) ≡ skip_empty_lines bytes
    → drop at bytes ≡ skip_empty_lines bytes
skip_end bytes at h before =
    sym (skip_none (drop at bytes) (ap empty_line (sym (take_rest bytes at)) ∙ sym h)) ∙ before

-- the head of the bytes, as that of the bytes from i on
abbrev pub HeadFrom : List ℕ → ℕ → Type 0
HeadFrom bytes i = head_len bytes ≡ shifted i (head_len (drop i bytes))

pub head_ends : (bytes : List ℕ) (i n : ℕ) → i < length bytes → get_or bytes i 0 ≡ 10
    → Some n ≡ empty_line (from (i + 1) bytes) → HeadFrom bytes i → Some (i + 1 + n) ≡ head_len bytes
head_ends bytes i n l e h before =
    let line : empty_line (drop (i + 1) bytes) ≡ Some n = ap empty_line (sym (take_rest bytes (i + 1))) ∙ sym h in
    sym (before ∙ ap (shifted i) (at_drop_more head_len bytes i 0 l
    ∙ head_len_ends (get_or bytes i 0) (drop (i + 1) bytes) n (eq-eqb _ 10 e) line)
    ∙ ap (λ m. Some m) (omega arith))

pub head_open : (bytes : List ℕ) (i : ℕ) → i < length bytes → None ≡ empty_line (from (i + 1) bytes)
    → HeadFrom bytes i → HeadFrom bytes (i + 1)
head_open bytes i l h before =
    let line : empty_line (drop (i + 1) bytes) ≡ None = ap empty_line (sym (take_rest bytes (i + 1))) ∙ sym h in
    before ∙ ap (shifted i) (at_drop_more head_len bytes i 0 l
    ∙ head_len_open (get_or bytes i 0) (drop (i + 1) bytes) line) ∙ shifted_suc i _

pub head_other : (bytes : List ℕ) (i : ℕ) → i < length bytes → (get_or bytes i 0 ≡ 10 → ⊥)
    → HeadFrom bytes i → HeadFrom bytes (i + 1)
head_other bytes i l e before =
    before ∙ ap (shifted i) (at_drop_more head_len bytes i 0 l
    ∙ head_len_other (get_or bytes i 0) (drop (i + 1) bytes) (ne_eqb _ 10 e)) ∙ shifted_suc i _

no_head : head_len [] ≡ None
unfolding head_len
no_head = refl

pub head_none : (bytes : List ℕ) (i : ℕ) → length bytes ≤ i → HeadFrom bytes i → None ≡ head_len bytes
head_none bytes i l before = sym (before ∙ ap (shifted i) (at_drop_all head_len bytes i l ∙ no_head))

-- how many LFs stand before the place
abbrev pub feeds_before : List ℕ → ℕ → ℕ
feeds_before bytes place = count_by is_line_feed (take place bytes)

-- the head of the bytes, as that of the bytes from i on, and how many LFs stand before i
pub record Scanned (bytes : List ℕ) (i lines : ℕ) : Type 0 where
  pub head : HeadFrom bytes i
  pub counted : lines ≡ count_by is_line_feed (take i bytes)

scan_other : (bytes : List ℕ) (i lines : ℕ) → i < length bytes → (get_or bytes i 0 ≡ 10 → ⊥)
    → Scanned bytes i lines → Scanned bytes (i + 1) lines
scan_other bytes i lines l e s = record {
  head = head_other bytes i l e s.head;
  counted = s.counted ∙ sym (count_by_more_no is_line_feed bytes i 0 l (ne_eqb _ 10 e));
}

-- no LF stands from i up to j
abbrev pub NoFeed : List ℕ → ℕ → ℕ → Type 0
NoFeed bytes i j = (k : ℕ) → i ≤ k → k < j → get_or bytes k 0 ≡ 10 → ⊥

skip_by : (bytes : List ℕ) (i n lines : ℕ) → i + n ≤ length bytes → NoFeed bytes i (i + n)
    → Scanned bytes i lines → Scanned bytes (i + n) lines
skip_by bytes i zero lines l e s = let same : i ≡ i + 0 = omega arith in subst (λ (m : ℕ). Scanned bytes m lines) same s
skip_by bytes i (suc n) lines l e s =
    let more : i + n + 1 ≡ i + suc n = omega arith in
    subst (λ (m : ℕ). Scanned bytes m lines) more
    (scan_other bytes (i + n) lines (omega arith) (e (i + n) (omega arith) (omega arith))
    (skip_by bytes i n lines (omega arith) (λ k a b. e k a (omega arith)) s))

pub scan_skip : (bytes : List ℕ) (i j lines : ℕ) → i ≤ j → j ≤ length bytes → NoFeed bytes i j
    → Scanned bytes i lines → Scanned bytes j lines
scan_skip bytes i j lines o l e s =
    let whole : i + (j - i) ≡ j = omega arith in
    subst (λ (m : ℕ). Scanned bytes m lines) whole (skip_by bytes i (j - i) lines (omega arith) (λ k a b. e k a (omega arith)) s)

pub scan_open : (bytes : List ℕ) (i lines : ℕ) → i < length bytes → get_or bytes i 0 ≡ 10
    → None ≡ empty_line (from (i + 1) bytes) → Scanned bytes i lines → Scanned bytes (i + 1) (lines + 1)
scan_open bytes i lines l e h s = record {
  head = head_open bytes i l h s.head;
  counted = ap (λ n. n + 1) s.counted ∙ sym (count_by_more_yes is_line_feed bytes i 0 l (eq-eqb _ 10 e));
}

one_at : (b n : ℕ) (t : Bool) → (b == 10) ≡ t → Some n ≡ cond t (Some 1) None → count_by is_line_feed (take n (b ∷ [])) ≡ 1
one_at b n true e h = let same : n ≡ 1 = cc in rw same (rw e refl)
one_at b n false e h = absurd cc

two_at : (b c n : ℕ) (bytes : List ℕ) (t u v : Bool) → (b == 10) ≡ t → (c == 10) ≡ v
    → Some n ≡ cond t (Some 1) (cond (u && v) (Some 2) None) → count_by is_line_feed (take n (b ∷ c ∷ bytes)) ≡ 1
two_at b c n bytes true u v e g h = let same : n ≡ 1 = cc in rw same (rw e refl)
two_at b c n bytes false true true e g h = let same : n ≡ 2 = cc in rw same (rw (e, g) refl)
two_at b c n bytes false true false e g h = absurd cc
two_at b c n bytes false false v e g h = absurd cc

-- one LF stands in an empty line
empty_count : (bytes : List ℕ) (n : ℕ) → Some n ≡ empty_line bytes → count_by is_line_feed (take n bytes) ≡ 1
empty_count [] n h = absurd cc
empty_count (b ∷ []) n h = one_at b n (b == 10) refl h
empty_count (b ∷ c ∷ bytes) n h = two_at b c n bytes (b == 10) (b == 13) (c == 10) refl refl h

count_both : (bytes : List ℕ) (i n : ℕ)
    → count_by is_line_feed (take (i + n) bytes) ≡ count_by is_line_feed (take i bytes) + count_by is_line_feed (take n (drop i bytes))
count_both bytes i n =
    ap (count_by is_line_feed) (take-add i n bytes) ∙ sum_by-append (λ (b : ℕ). cond (is_line_feed b) 1 0) (take i bytes) (take n (drop i bytes))

pub scan_ends : (bytes : List ℕ) (i n lines : ℕ) → i < length bytes → get_or bytes i 0 ≡ 10
    → Some n ≡ empty_line (from (i + 1) bytes) → Scanned bytes i lines
    → lines + 2 ≡ count_by is_line_feed (take (i + 1 + n) bytes)
scan_ends bytes i n lines l e h s =
    let rest : count_by is_line_feed (take n (drop (i + 1) bytes)) ≡ 1 =
    empty_count (drop (i + 1) bytes) n (h ∙ ap empty_line (take_rest bytes (i + 1))) in
    omega (arith, s.counted, rest, count_both bytes (i + 1) n, count_by_more_yes is_line_feed bytes i 0 l (eq-eqb _ 10 e))

pub scan_head : (bytes : List ℕ) (i n lines : ℕ) → i < length bytes → get_or bytes i 0 ≡ 10
    → Some n ≡ empty_line (from (i + 1) bytes) → Scanned bytes i lines → Some (i + 1 + n) ≡ head_len bytes
scan_head bytes i n lines l e h s = head_ends bytes i n l e h s.head

pub scan_none : (bytes : List ℕ) (i lines : ℕ) → length bytes ≤ i → Scanned bytes i lines → None ≡ head_len bytes
scan_none bytes i lines l s = head_none bytes i l s.head

pub scan_begun : (bytes : List ℕ) (i : ℕ) → HeadFrom bytes i → Scanned bytes i (feeds_before bytes i + 0)
scan_begun bytes i h = record { head = h; counted = let n : feeds_before bytes i + 0 ≡ feeds_before bytes i = omega arith in n }

pub scan_on : (bytes : List ℕ) (i m n : ℕ) → Scanned bytes i (m + n + 1) → Scanned bytes i (m + (n + 1))
scan_on bytes i m n s = let same : m + n + 1 ≡ m + (n + 1) = omega arith in subst (λ (k : ℕ). Scanned bytes i k) same s

pub feed_at : (bytes : List ℕ) (i j k : ℕ) → i ≤ k → ((m : ℕ) → 0 ≤ m → m < j → (get_or (from i bytes) m 0 == 10) ≡ true → ⊥)
    → k < i + j → get_or bytes k 0 ≡ 10 → ⊥
feed_at bytes i j k o none l e =
    let whole : i + (k - i) ≡ k = omega arith in
    let here : get_or (from i bytes) (k - i) 0 ≡ get_or bytes k 0 =
    ap (λ (xs : List ℕ). get_or xs (k - i) 0) (take_rest bytes i) ∙ get_or-drop i bytes (k - i) 0 ∙ ap (λ m. get_or bytes m 0) whole in
    none (k - i) (omega arith) (omega arith) (eq-eqb _ 10 (here ∙ e))

-- a search of the rest finds no LF before the place
pub no_feed : (bytes : List ℕ) (i j : ℕ) → ((m : ℕ) → 0 ≤ m → m < j → (get_or (from i bytes) m 0 == 10) ≡ true → ⊥)
    → NoFeed bytes i (i + j)
no_feed bytes i j none = λ k o l e. feed_at bytes i j k o none l e
