-- What a service answers that adds, and what its answers sum to.
use Rattle.std.specs.Prelude.{◌≡◌, ℕ, ◌+◌, ◌%◌, ◌^◌, ◌<◌, Result, Ok, sum, map}
use Rattle.std.specs.List.{range_with_len}
use Rattle.bench_combine.specs.declared.depth.Depth.{Depth}
use Rattle.bench_combine.specs.declared.depth.Depth.TheVariants.{One, Five, Twenty}

-- each Ok answer to a number is the number and k, modulo 2^32
abbrev pub Adds : {E : Type 0} → ℕ → (ℕ → Result ℕ E → Type 0) → Type 0
Adds k may = (n a : ℕ) → n < 2 ^ 32 → may n (Ok a) → a ≡ (n + k) % 2 ^ 32

-- the sum of the answers to 0, 1 and so on, so many, of a service that adds k, modulo 2^32
abbrev pub total : ℕ → ℕ → ℕ
total k calls = sum (map (λ n. n + k) (range_with_len 0 calls)) % 2 ^ 32

-- how many maps stand over the service
abbrev pub maps_of : Depth → ℕ
maps_of One = 1
maps_of Five = 5
maps_of Twenty = 20
