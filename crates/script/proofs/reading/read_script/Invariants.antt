use Rattle.std.proofs.Common.{◌≡◌, ◌+◌, ◌==◌, length, drop}
use Rattle.std.specs.List.{slice_split}
use Rattle.script.specs.Script.{plan_from, plan_of}
use Rattle.script.specs.Plan.{plan}
use Rattle.script.proofs.reading.read_script.Given as goal

abbrev pub invariant-loop-line : goal.invariant-loop-line
invariant-loop-line l = record {
  counted : l.number ≡ length l.yielded + 1;
  so_far : plan_of l.bytes ≡ plan_from (plan l.script) (length l.yielded + 1) (drop (length l.yielded) (slice_split (λ b. b == 10) l.bytes));
}
