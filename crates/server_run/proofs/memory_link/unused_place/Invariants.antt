use Rattle.std.proofs.Common.{◌≡◌, ◌-◌, length}
use Rattle.server_run.specs.Steps.{IsPlace, PassesOver, bytes_before}
use Rattle.server_run.proofs.memory_link.unused_place.Given as goal

abbrev pub invariant-loop-current : goal.invariant-loop-current
invariant-loop-current l = record {
  place : IsPlace l.steps l.step l.offset;
  before : bytes_before l.steps l.step l.offset ≡ bytes_before l.steps l.fn.step l.fn.offset;
  passes : PassesOver l.steps l.fn.step l.step;
}

abbrev pub decreases-loop-current : goal.decreases-loop-current
decreases-loop-current l = length l.steps - l.step
