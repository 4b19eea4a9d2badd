-- What the steps of a link in memory hand over, and where a link stands in them.
use Rattle.std.specs.Prelude.{◌≡◌, ℕ, ◌+◌, ◌≤◌, ◌<◌, List, [], length, take, slice_get, Option, Some, None, IfSome, Bool, true, false, ◌==◌, Result, Ok, Err, min, ◌⊎◌}
use Rattle.std.specs.List.{count_by, flat_map}
use Rattle.std.specs.Option.{option_map_or}
use Rattle.futures.specs.declared.task.Poll.{Poll}
use Rattle.futures.specs.declared.task.Poll.TheVariants.{Ready, Pending}
use Rattle.service_core.specs.declared.link.LinkFault.{LinkFault}
use Rattle.service_core.specs.declared.link.LinkFault.TheVariants.{Failed, Memory}
use Rattle.server_run.specs.declared.read_step.ReadStep.{ReadStep}
use Rattle.server_run.specs.declared.read_step.ReadStep.TheVariants.{Give, NotYet, Fail, Never}
use Rattle.server_run.specs.declared.write_step.WriteStep.{WriteStep}
use Rattle.server_run.specs.declared.write_step.WriteStep.TheVariants.{Take, NotYet as WritesNotYet, Fail as WriteFails}

-- the bytes that a step hands over
abbrev pub bytes_of : ReadStep → List ℕ
bytes_of (Give bytes) = bytes
bytes_of NotYet = []
bytes_of Fail = []
bytes_of Never = []

-- a read that fails
abbrev pub is_read_fail : ReadStep → Bool
is_read_fail (Give bytes) = false
is_read_fail NotYet = false
is_read_fail Fail = true
is_read_fail Never = false

-- a write that fails
abbrev pub is_write_fail : WriteStep → Bool
is_write_fail (Take most) = false
is_write_fail WritesNotYet = false
is_write_fail WriteFails = true

-- how many of the steps before this one are of the kind
abbrev pub count_before : {A : Type 0} → (A → Bool) → List A → ℕ → ℕ
count_before is_of_kind steps step = count_by is_of_kind (take step steps)

-- all bytes that the steps hand over, in order
abbrev pub given_by : List ReadStep → List ℕ
given_by steps = flat_map bytes_of steps

-- the bytes of the step at this index, none past the last one
abbrev pub bytes_at : List ReadStep → ℕ → List ℕ
bytes_at steps step = option_map_or bytes_of (slice_get steps step) []

-- how many bytes come before this place in the steps
abbrev pub bytes_before : List ReadStep → ℕ → ℕ → ℕ
bytes_before steps step offset = length (given_by (take step steps)) + offset

-- a step, and an offset within its bytes
pub record IsPlace (steps : List ReadStep) (step offset : ℕ) : Type 0 where
  pub within : step ≤ length steps
  pub inside : offset ≤ length (bytes_at steps step)

-- before the first step of the reads, and of the writes
abbrev pub IsAtStart : ℕ → ℕ → ℕ → Type 0
IsAtStart step offset write_step = (step ≡ 0) × (offset ≡ 0) × (write_step ≡ 0)

-- a Give all of whose bytes come before the offset
abbrev pub is_used_up : ReadStep → ℕ → Bool
is_used_up (Give bytes) offset = length bytes == offset
is_used_up NotYet offset = false
is_used_up Fail offset = false
is_used_up Never offset = false

-- the step at this place, if there is one, is no used-up Give
abbrev pub IsUnused : List ReadStep → ℕ → ℕ → Type 0
IsUnused steps step offset = IfSome (slice_get steps step) (λ current. is_used_up current offset ≡ false)

-- a step that takes bytes takes one or more
abbrev pub TakesSome : WriteStep → Type 0
TakesSome step = (most : ℕ) → step ≡ Take most → 0 < most

-- a step that hands over bytes
abbrev pub IsGive : Option ReadStep → Type 0
IsGive step = (bytes : List ℕ) × (step ≡ Some (Give bytes))

-- What a read answers at the step with this index, and the step that comes next. A Give stays until it is used up
abbrev pub MeetsRead : Option ReadStep → ℕ → ℕ → Poll (Result ℕ LinkFault) → Type 0
MeetsRead None at next answer = (answer ≡ Ready (Ok 0)) × (next ≡ at)
MeetsRead (Some (Give bytes)) at next answer = ((n : ℕ) × (answer ≡ Ready (Ok n)) × (0 < n)) × (next ≡ at)
MeetsRead (Some NotYet) at next answer = (answer ≡ Pending) × (next ≡ at + 1)
MeetsRead (Some Fail) at next answer = (answer ≡ Ready (Err Failed)) × (next ≡ at + 1)
MeetsRead (Some Never) at next answer = (answer ≡ Pending) × (next ≡ at)

-- the steps that are passed over before a read are gives
pub record PassesOver (steps : List ReadStep) (step at : ℕ) : Type 0 where
  pub onward : step ≤ at
  pub gives : (k : ℕ) → step ≤ k → k < at → IsGive (slice_get steps k)

-- a read passes over gives, and goes by the step behind them
pub record GoesByReads (steps : List ReadStep) (step next : ℕ) (answer : Poll (Result ℕ LinkFault)) : Type 0 where
  pub at : ℕ
  pub passes : PassesOver steps step at
  pub meets : MeetsRead (slice_get steps at) at next answer

-- What a write of so many bytes answers at the step with this index, and the step that comes next
abbrev pub MeetsWrite : Option WriteStep → ℕ → ℕ → ℕ → Poll (Result ℕ LinkFault) → Type 0
MeetsWrite None count at next answer = (answer ≡ Ready (Ok count)) × (next ≡ at)
MeetsWrite (Some (Take most)) count at next answer = (answer ≡ Ready (Ok (min count most))) × (next ≡ at + 1)
MeetsWrite (Some WritesNotYet) count at next answer = (answer ≡ Pending) × (next ≡ at + 1)
MeetsWrite (Some WriteFails) count at next answer = (answer ≡ Ready (Err Failed)) × (next ≡ at + 1)

-- a write goes by the current step, or memory runs out and the step stays
abbrev pub GoesByWrites : List WriteStep → ℕ → ℕ → ℕ → Poll (Result ℕ LinkFault) → Type 0
GoesByWrites steps count step next answer = ((answer ≡ Ready (Err Memory)) × (next ≡ step)) ⊎ MeetsWrite (slice_get steps step) count step next answer
