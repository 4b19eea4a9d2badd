-- What a spawner has counted.
use Rattle.std.specs.Prelude.{◌≡◌, ℕ}

-- it has started nothing, and nothing was refused
abbrev pub IsFresh : {S : Type 0} → (S → ℕ) → (S → ℕ) → S → Type 0
IsFresh starts refusals spawner = (starts spawner ≡ 0) × (refusals spawner ≡ 0)
