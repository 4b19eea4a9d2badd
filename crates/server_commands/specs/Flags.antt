-- The rule of a flag's word, and what the steps on it tell.
use Rattle.std.specs.Prelude.{◌≡◌, ℕ, ◌+◌, ◌≤◌, length, slice_index}
use mathlib.Core.Option.{some}
use lib.ListN.{get_elem?}
use Rattle.atomic_table.specs.Table.{State, Me, Step}
use Rattle.server_commands.specs.declared.flag.Look.{Look}

-- before the first read
abbrev pub unseen : Look
unseen = record { reads = 0; seen = 0 }

-- The word is 0 or 1, and no end has seen more than is there.
pub record IsRising (s : State (Unit {0}) Look) : Type 0 where
  pub one : length s.words ≡ 1
  pub small : slice_index s.words 0 ≤ 1
  pub seen : (k : ℕ) (look : Look) → get_elem? s.views k ≡ some look → look.seen ≤ slice_index s.words 0

abbrev pub came : Step (Unit {0}) → Me (Unit {0}) Look → ℕ → Me (Unit {0}) Look → Type 0
came st before found after = after.0 ≡ unseen

-- One more read, of what was found, which is 0 or 1 and no less than before.
pub record Read (before : Look) (found : ℕ) (after : Look) : Type 0 where
  pub reads : after.reads ≡ before.reads + 1
  pub seen : after.seen ≡ found
  pub small : found ≤ 1
  pub onward : before.seen ≤ found

abbrev pub read : Step (Unit {0}) → Me (Unit {0}) Look → ℕ → Me (Unit {0}) Look → Type 0
read st before found after = Read before.0 found after.0

-- it knows that the word is 1
abbrev pub raised : Step (Unit {0}) → Me (Unit {0}) Look → ℕ → Me (Unit {0}) Look → Type 0
raised st before found after = after.0.seen ≡ 1
