use Rattle.std.proofs.Common.{◌≤◌, ◌+◌, length, vec_capacity, vec_len}
use Rattle.std.specs.Vec.Iter.{into_iter_items}
use Rattle.server_run.specs.contracts.memory_link.MemoryLinkLink.TheImpl.{ghosts}
use Rattle.script.proofs.Offered.{AreLeft}
use Rattle.script.proofs.listening.into_listeners.Given as goal

abbrev pub invariant-loop-listener : goal.invariant-loop-listener
invariant-loop-listener l = record {
  can_next : (goal.iterator-loop-listener).can_next l.listener-iterator;
  is_finite : (goal.iterator-loop-listener).is_finite l.listener-iterator;
  left : AreLeft ghosts l.fn.listeners.items l.made.items (into_iter_items l.listener-iterator);
  room : vec_len l.made + length (into_iter_items l.listener-iterator) ≤ vec_capacity l.made;
}
