-- Each turn has five events at most.
use Rattle.std.proofs.Common.{◌≤◌, ◌*◌}
use Rattle.bench_accept.proofs.load.carried_out.Given as goal

abbrev pub invariant-loop-number : goal.invariant-loop-number
invariant-loop-number l = l.tally.events ≤ 5 * l.number
