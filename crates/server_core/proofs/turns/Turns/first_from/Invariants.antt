-- The places that are left have the same first worker.
use Rattle.std.proofs.Common.{◌≡◌, ◌-◌, drop}
use Rattle.std.specs.Prelude.{find}
use Rattle.server_core.specs.Turns.{is_left}
use Rattle.server_core.proofs.turns.Turns.first_from.Given as goal

abbrev pub invariant-loop-place : goal.invariant-loop-place
invariant-loop-place l =
    find (is_left l.self.free l.passed) (drop l.from l.self.order)
    ≡ find (is_left l.self.free l.passed) (drop l.fn.from l.self.order)

abbrev pub decreases-loop-place : goal.decreases-loop-place
decreases-loop-place l = 513 - l.from
