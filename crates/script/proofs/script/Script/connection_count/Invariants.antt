use Rattle.std.proofs.Common.{◌≡◌, ◌≤◌, ◌*◌, length, take}
use Rattle.std.specs.List.{sum_by}
use Rattle.script.specs.Planned.{Listening}
use Rattle.script.proofs.script.Script.connection_count.Given as goal

abbrev pub invariant-loop-listener : goal.invariant-loop-listener
invariant-loop-listener l = record {
  counted : l.count ≡ sum_by (λ (listener : Listening). length listener.connections) (take l.listener-index l.self.listeners.items);
  small : l.count ≤ 100000 * l.listener-index;
}
