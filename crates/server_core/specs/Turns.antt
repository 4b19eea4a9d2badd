-- The turns of the workers, as their table of places keeps them.
use Rattle.std.specs.Prelude.{◌≡◌, ℕ, ◌<◌, ◌&&◌, Bool, not, List, length, map, Option, Some, None, slice_index, slice_index_or, true, refl}
use Rattle.std.specs.Coded.{Coded, code_by, coded×, coded_ℕ, coded_list}
use Rattle.std.specs.List.{filter, range_with_len}
use Rattle.std.specs.FinSet as set
use Rattle.server_core.specs.Numbers.{Numbers}

pub record Rota : Type 0 where
  pub order : List ℕ  -- the workers that are asked in turn
  pub next : ℕ  -- the place in the order that is asked first
  pub free : Numbers

-- a rota is stored as the tuple of its fields
abbrev pub rota_code : Coded Rota
rota_code =
    code_by (List ℕ × (ℕ × Numbers)) (coded× (coded_list coded_ℕ) (coded× coded_ℕ (set.code coded_ℕ)))
    (λ r. (r.order, (r.next, r.free)))
    (λ p. record { order = p.0; next = p.1.0; free = p.1.1 })
    (λ _. refl)

-- the workers at the marked places of the order
abbrev pub workers_at : List ℕ → Numbers → Numbers
workers_at order marks = set.from_list (map (λ k. slice_index order k) (filter (λ k. set.contains marks k) (range_with_len 0 (length order))))

-- the place of each worker in the order stands at its number
pub record ArePlaces (order : List ℕ) (places : List (Option ℕ)) : Type 0 where
  pub of_order : (k : ℕ) → k < length order → slice_index_or places (slice_index order k) None ≡ Some k
  pub in_order : (w k : ℕ) → slice_index_or places w None ≡ Some k → (k < length order) × (slice_index order k ≡ w)

-- no place behind the order is marked
abbrev pub AreWithin : Numbers → List ℕ → Type 0
AreWithin marks order = (k : ℕ) → set.contains marks k ≡ true → k < length order

-- w is free and isn't passed over
abbrev pub is_left : Numbers → Numbers → ℕ → Bool
is_left free passed w = set.contains free w && not (set.contains passed w)
