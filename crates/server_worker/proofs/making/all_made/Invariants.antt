use Rattle.std.proofs.Common.{◌<◌, ℕ, length, slice_get}
use Rattle.server_worker.specs.Standing.{IsMade}
use Rattle.server_worker.proofs.making.all_made.Given as goal

abbrev pub invariant-loop-token : goal.invariant-loop-token
invariant-loop-token g l = (t : ℕ) → t < l.token → t < length l.slots.items → IsMade (slice_get l.slots.items t)
