use Rattle.std.proofs.Common.{◌≡◌, ◌≤◌, ◌+◌, length, vec_capacity, vec_len}
use Rattle.server_run.specs.contracts.memory_link.MemoryLinkLink.TheImpl.{ghosts}
use Rattle.script.proofs.Offered.{Gone}
use Rattle.script.proofs.steps.steps_of.Given as goal

abbrev pub invariant-loop-coming : goal.invariant-loop-coming
invariant-loop-coming l = record {
  gone : Gone ghosts l.comings l.fn.connections.items l.coming-index l.name l.steps.items l.rest.items;
  named : l.name + length l.rest.items ≡ length l.fn.connections.items;
  as_many : vec_len l.steps ≡ l.coming-index;
  room : length l.comings ≤ vec_capacity l.steps;
}
