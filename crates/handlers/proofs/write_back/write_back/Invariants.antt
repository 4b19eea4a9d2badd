use Rattle.std.proofs.Common.{length}
use Rattle.futures.specs.Task.{Keeps}
use Rattle.handlers.specs.Echoing.{Steps}
use Rattle.handlers.proofs.write_back.write_back.Given as goal

abbrev pub invariant-loop-link : goal.invariant-loop-link
invariant-loop-link g l = record {
  steps : Steps g.L.Link l.fn.link l.link l.fn.waiting l.waiting;
  kept : Keeps l.fn.cx l.cx;
}

abbrev pub decreases-loop-link : goal.decreases-loop-link
decreases-loop-link g l = length l.waiting
