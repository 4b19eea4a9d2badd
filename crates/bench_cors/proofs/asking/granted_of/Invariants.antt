-- No more are granted than were asked.
use Rattle.std.proofs.Common.{◌≤◌}
use Rattle.bench_cors.proofs.asking.granted_of.Given as goal

abbrev pub invariant-loop : goal.invariant-loop
invariant-loop g l = l.count ≤ l.counter
