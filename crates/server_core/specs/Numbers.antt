-- Sets of workers, by their numbers.
use Rattle.std.specs.Prelude.{◌≡◌, ℕ, zero, suc, ◌/◌, ◌%◌, ◌==◌, ◌<◌, ◌≤◌, Bool, true, false, not, cond, List, [], ◌∷◌, slice_index}
use Rattle.std.specs.Ordering.{nat_cmp}
use Rattle.std.specs.Int.{bit_at}
use Rattle.std.specs.List.{list_any}
use Rattle.std.specs.FinSet as set

abbrev pub Numbers : Type 0
Numbers = set.FinSet nat_cmp

-- the set with w, or without it
abbrev pub with_mark : Numbers → ℕ → Bool → Numbers
with_mark s w marked = cond marked (set.insert s w) (set.remove s w)

-- whether bit w is set, in words of 128 bits
abbrev pub is_set : List ℕ → ℕ → Bool
is_set words w = bit_at (slice_index words (w / 128)) (w % 128) == 1

-- whether a word has a bit that is set
abbrev pub any_word : List ℕ → Bool
any_word words = list_any (λ x. not (x == 0)) words

-- the numbers below n whose bit is set
unfoldable pub numbers_below : ℕ → List ℕ → List ℕ
numbers_below zero words = []
numbers_below (suc n) words = cond (is_set words n) (n ∷ numbers_below n words) (numbers_below n words)

-- k is the lowest bit that is set, from a place on
pub record IsFirstBit (word place k : ℕ) : Type 0 where
  pub behind : place ≤ k
  pub within : k < 128
  pub there : bit_at word k ≡ 1
  pub between : (i : ℕ) → place ≤ i → i < k → bit_at word i ≡ 0

-- k is the lowest number of the set, from a number on
pub record IsFirstFrom (s : Numbers) (from k : ℕ) : Type 0 where
  pub behind : from ≤ k
  pub there : set.contains s k ≡ true
  pub between : (i : ℕ) → from ≤ i → i < k → set.contains s i ≡ false

-- the set has no number from that one on
abbrev pub HasNoneFrom : Numbers → ℕ → Type 0
HasNoneFrom s from = (i : ℕ) → from ≤ i → set.contains s i ≡ false
