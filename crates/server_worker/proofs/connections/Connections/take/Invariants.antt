use Rattle.std.proofs.Common.{◌≡◌, ◌+◌, length}
use Rattle.rtrb.specs.Ring.{known_items}
use Rattle.server_worker.specs.Taken.{Takes}
use Rattle.server_worker.specs.Holding.{Accounts}
use Rattle.server_worker.proofs.connections.Connections.take.Given as goal

abbrev pub invariant-loop : goal.invariant-loop
invariant-loop g l = Accounts g.L.Link.identity l.fn.self l.self × Takes l.listeners l.fn.self l.self × (l.counter + length (known_items l.self.parcels) ≡ l.end)
