use Rattle.std.specs.FinSet as set
use Rattle.server_acceptor.proofs.Rotating.{untried}
use Rattle.server_acceptor.proofs.Trying.{Tried}
use Rattle.server_acceptor.proofs.acceptor.Acceptor.place.Given as goal

abbrev pub invariant-loop-w : goal.invariant-loop-w
invariant-loop-w g l = Tried l.fn.self l.self l.passed

abbrev pub decreases-loop-w : goal.decreases-loop-w
decreases-loop-w g l = untried (λ v. set.contains l.passed v) l.self.core.order
