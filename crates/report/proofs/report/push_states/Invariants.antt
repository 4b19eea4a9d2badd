use Rattle.std.proofs.Common.{◌≡◌, ◌++◌, drop}
use Rattle.report.specs.Report.{state_lines}
use Rattle.report.proofs.report.push_states.Given as goal

abbrev pub invariant-loop-token : goal.invariant-loop-token
invariant-loop-token l = l.out ++ state_lines l.token (drop l.token l.states) ≡ l.fn.out ++ state_lines 0 l.states
