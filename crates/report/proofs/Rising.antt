-- Numbers that do not fall, of which those of a range stand there once each, and no others, are that range.
use Rattle.std.proofs.Common.{◌≡◌, ◌≢◌, ◌<◌, ◌≤◌, ◌+◌, ◌==◌, ◌&&◌, nat_le, nat_lt, ℕ, zero, suc, cond, List, [], ◌∷◌, refl, sym, ap, ◌∙◌, arith, inl, inr}
use Rattle.std.specs.List.{count_by, range_with_len}
use Rattle.std.proofs.lemmas.Bool.{cases_eq}
use Rattle.std.proofs.lemmas.Bool.Decides.{nat_tests}
use Rattle.std.proofs.lemmas.List.Sums.{sum_by-cons}

-- none is below this one, and none is below the one before it
abbrev pub RisesFrom : ℕ → List ℕ → Type 0
RisesFrom low [] = Unit {0}
RisesFrom low (n ∷ ns) = (low ≤ n) × RisesFrom n ns

-- how often this number stands there
abbrev pub times : ℕ → List ℕ → ℕ
times n ns = count_by (λ x. x == n) ns

-- 1 for one of so many numbers from this one on
abbrev pub once_within : ℕ → ℕ → ℕ → ℕ
once_within low many n = cond (nat_le low n && nat_lt n (low + many)) 1 0

pub times-cons : (n x : ℕ) (ns : List ℕ) → times n (x ∷ ns) ≡ cond (x == n) 1 0 + times n ns
times-cons n x ns = sum_by-cons (λ y. cond (y == n) 1 0) x ns

pub RisesFrom-weaker : (low high : ℕ) (ns : List ℕ) → low ≤ high → RisesFrom high ns → RisesFrom low ns
RisesFrom-weaker low high [] le up = tt
RisesFrom-weaker low high (n ∷ ns) le up = let from = up.0 in (omega arith, up.1)

none_below : (n low : ℕ) (ns : List ℕ) → n < low → RisesFrom low ns → times n ns ≡ 0
none_below n low [] below up = refl
none_below n low (x ∷ ns) below up =
    let from = up.0 in
    let more = times-cons n x ns in
    let rest = none_below n x ns (omega arith) up.1 in
    grind (arith, nat_tests)

here : (n x : ℕ) (ns : List ℕ) → x ≡ n → times n (x ∷ ns) ≡ 1 + times n ns
here n x ns same = let more = times-cons n x ns in grind (arith, nat_tests)

elsewhere : (n x : ℕ) (ns : List ℕ) → x ≢ n → times n (x ∷ ns) ≡ times n ns
elsewhere n x ns other = let more = times-cons n x ns in grind (arith, nat_tests)

-- where the lowest does not stand there, the next may be the lowest
raised : (low : ℕ) (ns : List ℕ) → RisesFrom low ns → times low ns ≡ 0 → RisesFrom (low + 1) ns
raised low [] up none = tt
raised low (x ∷ ns) up none =
    let from = up.0 in
    let other : x ≢ low = λ same. let once = here low x ns same in omega arith in
    (omega arith, up.1)

first_within : (low many : ℕ) → once_within low (suc many) low ≡ 1
first_within low many = grind (arith, nat_tests)

none_within : (low n : ℕ) → once_within low 0 n ≡ 0
none_within low n = grind (arith, nat_tests)

next_within : (low many n : ℕ) → n ≢ low → once_within low (suc many) n ≡ once_within (low + 1) many n
next_within low many n other = grind (arith, nat_tests)

not_next : (low many : ℕ) → once_within (low + 1) many low ≡ 0
not_next low many = grind (arith, nat_tests)

pub is_range : (low many : ℕ) (ns : List ℕ) → RisesFrom low ns → ((n : ℕ) → times n ns ≡ once_within low many n) → ns ≡ range_with_len low many
is_range low zero [] up counts = refl
is_range low (suc many) [] up counts = let first = first_within low many in let none = counts low in absurd (omega arith)
is_range low zero (x ∷ ns) up counts = let once = here x x ns refl in let none = counts x in let no = none_within low x in absurd (omega arith)
is_range low (suc many) (x ∷ ns) up counts =
    let from = up.0 in
    let once : times low (x ∷ ns) ≡ 1 = counts low ∙ first_within low many in
    let first : x ≡ low = elim (cases_eq x low) [
      | inl same ↦ same
      | inr other ↦ let more = elsewhere low x ns other in let none = none_below low x ns (omega arith) up.1 in absurd (omega arith)
    ] in
    let this = here low x ns first in
    let none : times low ns ≡ 0 = omega arith in
    let rest : (n : ℕ) → times n ns ≡ once_within (low + 1) many n = λ n. elim (cases_eq n low) [
      | inl same ↦ ap (λ (m : ℕ). times m ns) same ∙ none ∙ sym (not_next low many) ∙ sym (ap (once_within (low + 1) many) same)
      | inr other ↦ sym (elsewhere n x ns (λ same. other (sym same ∙ first))) ∙ counts n ∙ next_within low many n other
    ] in
    ap (λ (y : ℕ). y ∷ ns) first ∙ ap (λ (l : List ℕ). low ∷ l) (is_range (low + 1) many ns (raised low ns (RisesFrom-weaker low x ns (omega arith) up.1) none) rest)
