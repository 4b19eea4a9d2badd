-- Decimal numbers, and texts that are cut.
use Rattle.std.proofs.Common.{◌≡◌, ◌≤◌, ◌<◌, ℕ, ◌+◌, ◌-◌, ◌*◌, ◌==◌, nat_le, Bool, true, false, cond, ltb, List, [], ◌∷◌, length, take, drop, get_or, Option, Some, None, refl, ◌∙◌, arith}
use Rattle.std.specs.List.{position_or_len}
use Rattle.std.specs.Option.{option_map}
use Rattle.std.proofs.lemmas.List.{take_rest, at_drop_more}
use Rattle.std.proofs.lemmas.Bool.Decides.{nat_tests}
use Rattle.script.specs.Numbers.{is_decimal, decimal_from, number_to}
use Rattle.script.specs.Script.{cut_at}

-- more digits make no smaller number
pub decimal_grows : (value : ℕ) (ds : List ℕ) → value ≤ decimal_from value ds
decimal_grows value [] = omega arith
decimal_grows value (d ∷ ds) = let more = decimal_grows (value * 10 + (d - 48)) ds in omega (arith, more)

-- one digit more
pub decimal_more : (text : List ℕ) (value i : ℕ) → decimal_from 0 text ≡ decimal_from value (drop i text) → i < length text
    → decimal_from 0 text ≡ decimal_from (value * 10 + (get_or text i 0 - 48)) (drop (i + 1) text)
decimal_more text value i so_far within = so_far ∙ at_drop_more (decimal_from value) text i 0 within

-- a number past `most` is none
pub number_none : (most : ℕ) (text : List ℕ) (value : ℕ) (rest : List ℕ) → is_decimal text ≡ true → decimal_from 0 text ≡ decimal_from value rest → most < value → None ≡ number_to most text
number_none most text value rest is whole large =
    let more = decimal_grows value rest in
    let t : nat_le (decimal_from 0 text) most ≡ false = grind (arith, nat_tests) in rw (is, t)

-- a text cut at the first byte that is b
pub cut_is : (b : ℕ) (text : List ℕ) (at : Option ℕ)
    → at ≡ cond (ltb (position_or_len (λ c. c == b) text) (length text)) (Some (position_or_len (λ c. c == b) text)) None
    → option_map {U = List ℕ × List ℕ} (λ i. (take i text, drop (i + 1) text)) at ≡ cut_at b text
cut_is b text at is = rw is (pick (ltb (position_or_len (λ c. c == b) text) (length text)) (position_or_len (λ c. c == b) text))
  where
    pick : (t : Bool) (p : ℕ) → option_map {U = List ℕ × List ℕ} (λ i. (take i text, drop (i + 1) text)) (cond t (Some p) None) ≡ cond t (Some (take p text, drop (p + 1) text)) None
    pick true p = refl
    pick false p = refl

-- the same with the part behind as a slice's range gives it
pub cut_some : (b : ℕ) (text : List ℕ) (i : ℕ)
    → Some i ≡ cond (ltb (position_or_len (λ c. c == b) text) (length text)) (Some (position_or_len (λ c. c == b) text)) None
    → ◌≡◌ {A = Option (List ℕ × List ℕ)} (Some (take i text, take (length text - (i + 1)) (drop (i + 1) text))) (cut_at b text)
cut_some b text i is = rw (take_rest text (i + 1)) (cut_is b text (Some i) is)
