use Rattle.std.proofs.Common.{◌≡◌, ◌+◌, length}
use Rattle.rtrb.specs.Ring.{known_items}
use Rattle.bench_turns.proofs.ends.Ends.take.Given as goal

abbrev pub invariant-loop : goal.invariant-loop
invariant-loop l = l.counter + length (known_items l.self.notes) ≡ l.end
