-- What a holder of finished connections is given.
use Rattle.std.specs.Prelude.{◌≡◌, ◌<◌, ℕ, ◌+◌, ◌-◌, ◌^◌, min, List, ◌++◌, length, Option}
use Rattle.std.proofs.Common.{arith}
use Rattle.std.specs.List.{count_by}
use Rattle.std.specs.Option.{option_map}
use Rattle.server_run.specs.declared.entry.Entry.{Entry}
use Rattle.server_run.specs.Outcome.{is_served}

-- a count, which stands still at its last value
abbrev pub counted : ℕ → ℕ
counted n = min n (2 ^ 64 - 1)

pub counted_small : (n : ℕ) → counted n < 2 ^ 64
counted_small n = omega arith

abbrev pub served_count : {L : Type 0} → List (Entry L) → ℕ
served_count entries = count_by (λ e. is_served e.outcome) entries

-- it was given these entries; where it doesn't tell its list, they are some list that its two counts fit
pub record Adds {L D : Type 0} (taken : D → Option (List (Entry L))) (count served : D → ℕ) (old new : D) (entries : List (Entry L)) : Type 0 where
  pub list : taken new ≡ option_map (λ before. before ++ entries) (taken old)
  pub number : count new ≡ counted (count old + length entries)
  pub number_served : served new ≡ counted (served old + served_count entries)

-- it was given none
pub record Keeps {L D : Type 0} (taken : D → Option (List (Entry L))) (count served : D → ℕ) (old new : D) : Type 0 where
  pub list : taken new ≡ taken old
  pub number : count new ≡ count old
  pub number_served : served new ≡ served old
