use Rattle.std.proofs.Common.{◌≡◌, length, take}
use Rattle.server_worker.specs.Due.{IsMoved}
use Rattle.server_worker.specs.Waited.{NoneWaitsForAny}
use Rattle.server_worker.proofs.connections.Connections.wake_each.Given as goal

abbrev pub invariant-loop-at : goal.invariant-loop-at
invariant-loop-at g l = IsMoved l.fn.self l.self × NoneWaitsForAny (take l.at l.slots) (take l.self.resting l.self.live.items) × (l.at-end ≡ length l.slots)
