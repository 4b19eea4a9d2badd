-- Searches for LFs that go on where they stopped.
use Rattle.std.proofs.Common.{◌≡◌, ◌≤◌, ◌<◌, ◌+◌, ℕ, zero, suc, true, false, cond, not, List, [], ◌∷◌, ◌++◌, length, get_or, take, drop, arith, sym, ap, ◌∙◌, refl, Option, Some, None, add-one, drop-cons}
use Rattle.std.specs.Prelude.{◌==◌, ◌&&◌}
use Rattle.std.specs.Option.{option_map}
use Rattle.std.proofs.Math.Seq.{take-add}
use Rattle.std.proofs.lemmas.Bool.{and_from, false≢true}
use Rattle.std.proofs.lemmas.Option.{none-some}
use Rattle.std.proofs.lemmas.List.{take_all, take_rest, drop-drop, take-append-drop}
use Rattle.memchr.specs.Find.{IsFirstByte, is_byte}
use Rattle.http1_grammar.specs.Lines.{cut_at}
use Rattle.http1_grammar.proofs.LineLemmas.{has_no, cut_at_finds}
use Rattle.http1_head.proofs.ScanSteps.{from}

-- ---- the first LF

is_no_lf : (b : ℕ) → ((b == 10) ≡ true → ⊥) → not (b == 10) ≡ true
is_no_lf b h = elim (b == 10) as (λ v. (v ≡ true → ⊥) → not v ≡ true) [ true ↦ λ k. absurd (k refl) | false ↦ λ k. refl ] h

no_lf_before : (k : ℕ) (bytes : List ℕ) → ((j : ℕ) → 0 ≤ j → j < k → (get_or bytes j 0 == 10) ≡ true → ⊥) → k ≤ length bytes
    → has_no 10 (take k bytes) ≡ true
no_lf_before zero bytes h l = refl
no_lf_before (suc k) [] h l = absurd (omega arith)
no_lf_before (suc k) (b ∷ bytes) h l =
    and_from (not (b == 10)) (has_no 10 (take k bytes)) (is_no_lf b (h 0 (omega arith) (omega arith)))
    (no_lf_before k bytes (λ j z m. h (suc j) (omega arith) (omega arith)) (omega arith))

-- behind a byte
abbrev pub with_byte : ℕ → List ℕ × List ℕ → List ℕ × List ℕ
with_byte b parts = (b ∷ parts.0, parts.1)

cut_none : (bytes : List ℕ) → has_no 10 bytes ≡ true → cut_at 10 bytes ≡ None
unfolding cut_at
cut_none [] h = refl
cut_none (b ∷ bytes) h =
    elim (b == 10) as (λ v. (not v && has_no 10 bytes) ≡ true
    → cond v (Some ([], bytes)) (option_map (with_byte b) (cut_at 10 bytes)) ≡ None) [
      | true ↦ λ k. absurd (false≢true k)
      | false ↦ λ k. rw (cut_none bytes k) refl
    ] h

split_at_lf : (bytes : List ℕ) (k : ℕ) → k < length bytes → (get_or bytes k 0 == 10) ≡ true
    → bytes ≡ take k bytes ++ 10 ∷ drop (k + 1) bytes
split_at_lf bytes k l e =
    sym (take-append-drop k bytes)
    ∙ ap (λ x. take k bytes ++ x) (drop-cons bytes k 0 l ∙ ap (λ b. b ∷ drop (suc k) bytes) (eqb-is (get_or bytes k 0) e)
    ∙ ap (λ n. 10 ∷ drop n bytes) (sym (add-one k)))
  where
    eqb-is : (b : ℕ) → (b == 10) ≡ true → b ≡ 10
    eqb-is b h = grind arith

pub first_lf : (bytes : List ℕ) (r : Option ℕ) → IsFirstByte (is_byte 10) bytes r
    → option_map (λ at. (take at bytes, drop (at + 1) bytes)) r ≡ cut_at 10 bytes
first_lf bytes None h = sym (cut_none bytes (ap (has_no 10) (sym (take_all (length bytes) bytes (omega arith))) ∙ no_lf_before (length bytes) bytes h (omega arith)))
first_lf bytes (Some k) h =
    sym (ap (cut_at 10) (split_at_lf bytes k h.0.high h.1)
    ∙ cut_at_finds 10 (take k bytes) (drop (k + 1) bytes) (no_lf_before k bytes h.0.before (let l = h.0.high in omega arith)))

-- behind bytes with no LF
abbrev pub with_front : List ℕ → List ℕ × List ℕ → List ℕ × List ℕ
with_front front parts = (front ++ parts.0, parts.1)

cut_past : (a bytes : List ℕ) → cut_at 10 a ≡ None → cut_at 10 (a ++ bytes) ≡ option_map (with_front a) (cut_at 10 bytes)
unfolding cut_at
cut_past [] bytes h = same (cut_at 10 bytes)
  where
    same : (o : Option (List ℕ × List ℕ)) → o ≡ option_map (with_front []) o
    same None = refl
    same (Some p) = refl
cut_past (b ∷ a) bytes h =
    elim (b == 10) as (λ v. cond v (Some ([], a)) (option_map (with_byte b) (cut_at 10 a)) ≡ None
    → cond v (Some ([], a ++ bytes)) (option_map (with_byte b) (cut_at 10 (a ++ bytes)))
    ≡ option_map (with_front (b ∷ a)) (cut_at 10 bytes)) [
      | true ↦ λ k. absurd (none-some ([], a) (sym k))
      | false ↦ λ k. ap (option_map (with_byte b)) (cut_past a bytes (nothing_there (cut_at 10 a) k)) ∙ twice (cut_at 10 bytes)
    ] h
  where
    nothing_there : (o : Option (List ℕ × List ℕ)) → option_map (with_byte b) o ≡ None → o ≡ None
    nothing_there None k = refl
    nothing_there (Some p) k = absurd (none-some (b ∷ p.0, p.1) (sym k))

    twice : (o : Option (List ℕ × List ℕ)) → option_map (with_byte b) (option_map (with_front a) o) ≡ option_map (with_front (b ∷ a)) o
    twice None = refl
    twice (Some p) = refl

pub cut_from : (bytes : List ℕ) (place : ℕ) → cut_at 10 (take place bytes) ≡ None
    → cut_at 10 bytes ≡ option_map (with_front (take place bytes)) (cut_at 10 (from place bytes))
cut_from bytes place h =
    ap (cut_at 10) (sym (take-append-drop place bytes)) ∙ cut_past (take place bytes) (drop place bytes) h
    ∙ ap (λ x. option_map (with_front (take place bytes)) (cut_at 10 x)) (sym (take_rest bytes place))

pub lf_further : (bytes : List ℕ) (place at : ℕ) → cut_at 10 (take place bytes) ≡ None
    → Some (take at (from place bytes), drop (at + 1) (from place bytes)) ≡ cut_at 10 (from place bytes)
    → Some (take (place + at) bytes, drop (place + at + 1) bytes) ≡ cut_at 10 bytes
lf_further bytes place at none h =
    ap (λ (p : List ℕ × List ℕ). Some p) (pair _ _ _ _ front back) ∙ ap (option_map (with_front (take place bytes))) h ∙ sym (cut_from bytes place none)
  where
    pair : (a b c d : List ℕ) → a ≡ b → c ≡ d → ◌≡◌ {A = List ℕ × List ℕ} (a, c) (b, d)
    pair a b c d p q = cc

    front : take (place + at) bytes ≡ take place bytes ++ take at (from place bytes)
    front = take-add place at bytes ∙ ap (λ x. take place bytes ++ take at x) (sym (take_rest bytes place))

    back : drop (place + at + 1) bytes ≡ drop (at + 1) (from place bytes)
    back = ap (λ n. drop n bytes) (plus place at) ∙ sym (drop-drop (at + 1) place bytes) ∙ ap (drop (at + 1)) (sym (take_rest bytes place))
      where
        plus : (m n : ℕ) → m + n + 1 ≡ m + (n + 1)
        plus m n = omega arith

pub lf_nowhere : (bytes : List ℕ) (place : ℕ) → cut_at 10 (take place bytes) ≡ None → None ≡ cut_at 10 (from place bytes)
    → None ≡ cut_at 10 bytes
lf_nowhere bytes place none h = sym (cut_from bytes place none ∙ ap (option_map (with_front (take place bytes))) (sym h))
