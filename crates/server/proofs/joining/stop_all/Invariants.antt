use Rattle.std.proofs.Common.{◌≡◌, map}
use Rattle.server_acceptor.specs.Rings.{ring_in}
use Rattle.server.proofs.joining.stop_all.Given as goal

abbrev pub invariant-loop-w : goal.invariant-loop-w
invariant-loop-w g l = map ring_in l.parcels.items ≡ map ring_in l.fn.parcels.items
