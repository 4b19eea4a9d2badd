use Rattle.std.proofs.Common.{◌≡◌, length}
use Rattle.futures.specs.Task.{Keeps}
use Rattle.http1_dispatcher.specs.Moves.{Flushed}
use Rattle.http1_dispatcher.proofs.flush.flush.Given as goal

abbrev pub invariant-loop-link : goal.invariant-loop-link
invariant-loop-link g l = record {
  flushed : Flushed g.L.Link l.fn.link l.link l.fn.out l.out;
  faults : g.L.Link.write_faults l.link ≡ g.L.Link.write_faults l.fn.link;
  waits : g.L.Link.write_waits l.link ≡ g.L.Link.write_waits l.fn.link;
  kept : Keeps l.fn.cx l.cx;
}

abbrev pub decreases-loop-link : goal.decreases-loop-link
decreases-loop-link g l = length l.out
