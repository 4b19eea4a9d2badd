-- Searches for the end of a head that go on where they stopped.
use Rattle.std.proofs.Common.{◌≡◌, ◌≤◌, ◌-◌, ℕ, zero, suc, Bool, true, false, List, [], ◌∷◌, ◌++◌, length, take, drop, arith, sym, ap, ◌∙◌, subst, refl, Option, Some, None, length-take, length-append, min}
use Rattle.std.specs.Prelude.{◌==◌}
use Rattle.std.specs.Option.{option_map}
use Rattle.std.proofs.lemmas.Bool.{false≢true}
use Rattle.std.proofs.lemmas.Option.{none-some}
use Rattle.std.proofs.lemmas.List.{take_all, take-append-drop, take-append-le}
use Rattle.http1_grammar.specs.Limits.{Limits}
use Rattle.http1_grammar.specs.Lines.{empty_line, head_len}
use Rattle.http1_grammar.proofs.ScanLemmas.{shifted, shifted_zero, head_len_other, head_len_open, head_len_ends}
use Rattle.http1_grammar.proofs.StepLemmas.{open_line}
use Rattle.http1_head.specs.Passing.{EndsFrom, HasNoEnd, HasSeen}

later_is : (n : ℕ) (o : Option ℕ) → option_map suc (shifted n o) ≡ shifted (suc n) o
later_is n None = refl
later_is n (Some m) = ap (λ (k : ℕ). Some k) (omega arith)

-- ---- bytes in which no head ends

pub ends_from_start : (bytes : List ℕ) (n : ℕ) → n ≡ 0 → EndsFrom bytes n
ends_from_start bytes n e = subst (EndsFrom bytes) (sym e) (sym (shifted_zero (head_len bytes)))

pub none_no_end : (front : List ℕ) → head_len front ≡ None → HasNoEnd front
none_no_end [] h = λ more. ends_from_start more (0 - 2) (omega arith)
none_no_end (b ∷ []) h = λ more. ends_from_start (b ∷ more) (1 - 2) (omega arith)
none_no_end (b ∷ c ∷ []) h = λ more. ends_from_start (b ∷ c ∷ more) (2 - 2) (omega arith)
none_no_end (b ∷ c ∷ d ∷ front) h = λ more.
    let rest = c ∷ d ∷ front in
    let parts = open_head (empty_line rest) refl in
    (step more parts ∙ ap (option_map suc) (none_no_end (c ∷ d ∷ front) parts.1 more)
    ∙ later_is (length rest - 2) (head_len (drop (length rest - 2) (rest ++ more)))
    ∙ at_next more (length (b ∷ rest) - 2) (omega arith))
  where
    open_head : (o : Option ℕ) → empty_line (c ∷ d ∷ front) ≡ o → ((b == 10) ≡ true → empty_line (c ∷ d ∷ front) ≡ None) × (head_len (c ∷ d ∷ front) ≡ None)
    open_head o e = by_byte (b == 10) refl o e
      where
        no_suc : (x : Option ℕ) → option_map suc x ≡ None → x ≡ None
        no_suc None k = refl
        no_suc (Some n) k = absurd (none-some (suc n) (sym k))

        by_byte : (v : Bool) → (b == 10) ≡ v → (x : Option ℕ) → empty_line (c ∷ d ∷ front) ≡ x
            → ((b == 10) ≡ true → empty_line (c ∷ d ∷ front) ≡ None) × (head_len (c ∷ d ∷ front) ≡ None)
        by_byte true v None k = (λ _. k, no_suc _ (sym (head_len_open b (c ∷ d ∷ front) k) ∙ h))
        by_byte true v (Some n) k = absurd (none-some (suc n) (sym h ∙ head_len_ends b (c ∷ d ∷ front) n v k))
        by_byte false v x k = (λ t. absurd (false≢true (sym v ∙ t)), no_suc _ (sym (head_len_other b (c ∷ d ∷ front) v) ∙ h))

    step : (more : List ℕ) → ((b == 10) ≡ true → empty_line (c ∷ d ∷ front) ≡ None) × (head_len (c ∷ d ∷ front) ≡ None)
        → head_len (b ∷ ((c ∷ d ∷ front) ++ more)) ≡ option_map suc (head_len ((c ∷ d ∷ front) ++ more))
    step more parts =
        elim (b == 10) as (λ v. (b == 10) ≡ v → head_len (b ∷ ((c ∷ d ∷ front) ++ more)) ≡ option_map suc (head_len ((c ∷ d ∷ front) ++ more))) [
          | true ↦ λ e. head_len_open b ((c ∷ d ∷ front) ++ more) (open_line (c ∷ d ∷ front) more (omega arith) (parts.0 e))
          | false ↦ λ e. head_len_other b ((c ∷ d ∷ front) ++ more) e
        ] refl

    at_next : (more : List ℕ) (n : ℕ) → n ≡ suc (length (c ∷ d ∷ front) - 2)
        → shifted (suc (length (c ∷ d ∷ front) - 2)) (head_len (drop (length (c ∷ d ∷ front) - 2) ((c ∷ d ∷ front) ++ more)))
        ≡ shifted n (head_len (drop n (b ∷ ((c ∷ d ∷ front) ++ more))))
    at_next more n e = rw e refl

pub take_take : (n k : ℕ) (xs : List ℕ) → n ≤ k → take n (take k xs) ≡ take n xs
take_take zero k xs l = refl
take_take (suc n) zero xs l = absurd (omega arith)
take_take (suc n) (suc k) [] l = refl
take_take (suc n) (suc k) (x ∷ xs) l = ap (λ ys. x ∷ ys) (take_take n k xs (omega arith))

-- nothing was looked at
pub unseen : (limits : Limits) (bytes : List ℕ) → HasSeen limits bytes 0
unseen limits bytes = record {
  within = omega arith;
  limited = omega arith;
  no_end = λ more. ends_from_start more (0 - 2) (omega arith);
}

-- all was looked at
pub all_seen : (limits : Limits) (bytes : List ℕ) → length bytes ≤ limits.head → head_len bytes ≡ None → HasSeen limits bytes (length bytes)
all_seen limits bytes l h = record {
  within = omega arith;
  limited = l;
  no_end = subst HasNoEnd (sym (take_all (length bytes) bytes (omega arith))) (none_no_end bytes h);
}

-- more bytes came
pub seen_more : (limits : Limits) (bytes more : List ℕ) (seen : ℕ) → HasSeen limits bytes seen → HasSeen limits (bytes ++ more) seen
seen_more limits bytes more seen h = record {
  within = let l = h.within in omega (arith, length-append bytes more);
  limited = h.limited;
  no_end = subst HasNoEnd (sym (take-append-le seen bytes more h.within)) h.no_end;
}

-- the search goes on in the bytes under the limit
pub seen_window : (limits : Limits) (bytes : List ℕ) (seen m : ℕ) → HasSeen limits bytes seen → m ≡ min limits.head (length bytes)
    → EndsFrom (take m bytes) (seen - 2)
seen_window limits bytes seen m h e =
    let seen_m : seen ≤ m = let a = h.within in let b = h.limited in omega arith in
    subst (λ n. EndsFrom (take m bytes) (n - 2)) (len h.within)
    (subst (λ x. EndsFrom x (length (take seen bytes) - 2)) (whole_is seen_m) (h.no_end (drop seen (take m bytes))))
  where
    len : seen ≤ length bytes → length (take seen bytes) ≡ seen
    len l = omega (arith, length-take seen bytes)

    whole_is : seen ≤ m → take seen bytes ++ drop seen (take m bytes) ≡ take m bytes
    whole_is l = ap (λ x. x ++ drop seen (take m bytes)) (sym (take_take seen m bytes l)) ∙ take-append-drop seen (take m bytes)
