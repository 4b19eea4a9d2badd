-- A link that nothing was done with.
use Rattle.std.specs.Prelude.{◌≡◌, ℕ}

-- it has handed over no byte, and none of its calls failed or waited
pub record IsFresh {L : Type 0} (taken read_faults write_faults read_waits write_waits : L → ℕ) (link : L) : Type 0 where
  pub none_taken : taken link ≡ 0
  pub no_read_failed : read_faults link ≡ 0
  pub no_write_failed : write_faults link ≡ 0
  pub no_read_waited : read_waits link ≡ 0
  pub no_write_waited : write_waits link ≡ 0
