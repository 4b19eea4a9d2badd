-- The lowest number that is marked, from one on.
use Rattle.std.proofs.Common.{◌≡◌, ◌≢◌, ℕ, ◌+◌, ◌-◌, ◌<◌, ◌≤◌, ◌*◌, ◌^◌, ◌/◌, ◌%◌, true, false, List, get_or, refl, sym, ap, ◌∙◌, arith, nat_lt}
use Rattle.std.specs.Prelude.{◌==◌, max}
use Rattle.std.specs.Int.{bit_at, w128, trailing_zeros}
use Rattle.std.specs.FinSet as set
use native.Mathlib.Nat.{div-div-eq-div-mul}
use Rattle.std.proofs.Math.Nat.{div-le_self}
use Rattle.std.proofs.lemmas.Bool.Decides.{nat_tests}
use Rattle.std.proofs.lemmas.Nat.{pow-add}
use Rattle.std.proofs.lemmas.Nat.Bits.{bit_at-zero, bit_at_above, bit_at-trailing_zeros}
use Rattle.server_core.specs.Numbers.{is_set, IsFirstBit, IsFirstFrom, HasNoneFrom}
use Rattle.server_core.proofs.Marks.{view_of, contains_view_in, contains_view_out}

shifted : (n p i : ℕ) → bit_at (n / 2 ^ p) i ≡ bit_at n (p + i)
shifted n p i = ap (λ x. x % 2) (div-div-eq-div-mul n (2 ^ p) (2 ^ i) ∙ ap (λ m. n / m) (sym (pow-add 2 p i)))

shifted_from : (n p i : ℕ) → p ≤ i → bit_at n i ≡ bit_at (n / 2 ^ p) (i - p)
shifted_from n p i h = let there : p + (i - p) ≡ i = omega arith in ap (bit_at n) (sym there) ∙ sym (shifted n p (i - p))

pub none_from : (n p : ℕ) → n / 2 ^ p ≡ 0 → (i : ℕ) → p ≤ i → i < 128 → bit_at n i ≡ 0
none_from n p e i h _ = shifted_from n p i h ∙ ap (λ m. bit_at m (i - p)) e ∙ bit_at-zero (i - p)

pub first_from : (n p : ℕ) → n < 2 ^ 128 → n / 2 ^ p ≢ 0 → IsFirstBit n p (p + trailing_zeros w128 (n / 2 ^ p))
first_from n p fits some =
    let smaller = div-le_self n (2 ^ p) in
    let lowest = bit_at-trailing_zeros w128 (n / 2 ^ p) (omega arith) (omega arith) in
    let set_there : bit_at n (p + trailing_zeros w128 (n / 2 ^ p)) ≡ 1 = sym (shifted n p (trailing_zeros w128 (n / 2 ^ p))) ∙ lowest.1 in
    record {
      behind = omega arith;
      within =
          elim (nat_lt (p + trailing_zeros w128 (n / 2 ^ p)) 128) as (λ b. nat_lt (p + trailing_zeros w128 (n / 2 ^ p)) 128 ≡ b → p + trailing_zeros w128 (n / 2 ^ p) < 128) [
            | true ↦ λ e. grind (arith, nat_tests)
            | false ↦ λ e.
                let large : 128 ≤ p + trailing_zeros w128 (n / 2 ^ p) = grind (arith, nat_tests) in
                let unset = bit_at_above n 128 (p + trailing_zeros w128 (n / 2 ^ p)) fits large in
                absurd (omega arith)
          ] refl;
      there = set_there;
      between = λ i h less. shifted_from n p i h ∙ lowest.2 (i - p) (omega arith);
    }

-- ---- in all words
bit_of : (words : List ℕ) (group i : ℕ) → i < 128 → is_set words (128 * group + i) ≡ (bit_at (get_or words group 0) i == 1)
bit_of words group i small =
    let quotient : (128 * group + i) / 128 ≡ group = omega arith in
    let remainder : (128 * group + i) % 128 ≡ i = omega arith in
    rw (quotient, remainder) refl

unset_at : (words : List ℕ) (group i : ℕ) → 128 * group ≤ i → i < 128 * group + 128 → bit_at (get_or words group 0) (i - 128 * group) ≡ 0 → is_set words i ≡ false
unset_at words group i low high unset =
    let there : 128 * group + (i - 128 * group) ≡ i = omega arith in
    ap (is_set words) (sym there) ∙ bit_of words group (i - 128 * group) (omega arith) ∙ ap (λ n. n == 1) unset

pub found_in : (words : List ℕ) (from group place : ℕ) → from / 128 ≤ group → group < 4
    → ((i : ℕ) → from ≤ i → i < 128 * group → is_set words i ≡ false)
    → IsFirstBit (get_or words group 0) (max from (128 * group) % 128) place
    → IsFirstFrom (view_of words) from (128 * group + place)
found_in words from group place begun inside earlier first =
    let behind = first.behind in
    let within = first.within in
    let small : 128 * group + place < 512 = omega arith in
    record {
      behind = omega arith;
      there = contains_view_in words (128 * group + place) small ∙ bit_of words group place within ∙ ap (λ n. n == 1) first.there;
      between = λ i low high.
          elim (nat_lt i (128 * group)) as (λ b. nat_lt i (128 * group) ≡ b → set.contains (view_of words) i ≡ false) [
            | true ↦ λ e. contains_view_in words i (omega arith) ∙ earlier i low (grind (arith, nat_tests))
            | false ↦ λ e.
                let here : 128 * group ≤ i = grind (arith, nat_tests) in
                contains_view_in words i (omega arith)
                ∙ unset_at words group i here (omega arith) (first.between (i - 128 * group) (omega arith) (omega arith))
          ] refl;
    }

pub none_in : (words : List ℕ) (from : ℕ) → ((i : ℕ) → from ≤ i → i < 512 → is_set words i ≡ false) → HasNoneFrom (view_of words) from
none_in words from unset i low =
    elim (nat_lt i 512) as (λ b. nat_lt i 512 ≡ b → set.contains (view_of words) i ≡ false) [
      | true ↦ λ e. let small : i < 512 = grind (arith, nat_tests) in contains_view_in words i small ∙ unset i low small
      | false ↦ λ e. contains_view_out words i (grind (arith, nat_tests))
    ] refl
