-- No group before this one has a mark from `from` on.
use Rattle.std.proofs.Common.{◌≡◌, ◌≤◌, ◌<◌, ◌*◌, ℕ, false}
use Rattle.server_core.specs.Numbers.{is_set}
use Rattle.server_core.proofs.availability.Availability.first_from.Given as goal

abbrev pub invariant-loop-group : goal.invariant-loop-group
invariant-loop-group l = (i : ℕ) → l.from ≤ i → i < 128 * l.group → is_set l.self-inside.words i ≡ false
