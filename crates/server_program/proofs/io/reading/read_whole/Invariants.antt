use Rattle.std.proofs.Common.{◌≤◌, ◌-◌, length}
use Rattle.server_program.specs.Stream.{Hands}
use Rattle.server_program.proofs.io.reading.read_whole.Given as goal

abbrev pub invariant-loop-buf : goal.invariant-loop-buf
invariant-loop-buf g l = record {
  handed : Hands (g.So.Source.remaining l.fn.source) l.bytes (g.So.Source.remaining l.source);
  faults : g.So.Source.faults l.fn.source ≤ g.So.Source.faults l.source;
}

abbrev pub decreases-loop-buf : goal.decreases-loop-buf
decreases-loop-buf g l = 16777217 - length l.bytes
