use Rattle.std.proofs.Common.{◌≡◌, ◌⊎◌, ℕ, List, true}
use Rattle.server_acceptor.specs.Accepting.{Proceeds}
use Rattle.server_acceptor.specs.Acceptors.{parcels_of}
use Rattle.server_acceptor.specs.Sending.{IsForced}
use Rattle.server_acceptor.specs.Stopping.{StopsOnly}
use Rattle.server_acceptor.proofs.WordSteps.{Words}
use Rattle.server_acceptor.proofs.acceptor.Acceptor.send_words.Given as goal

abbrev pub invariant-loop-w : goal.invariant-loop-w
invariant-loop-w g l = record {
  proceeds : (listeners : List g.row.Li.Denot) (done : g.row.Do.Denot) → Proceeds g.Li.Listener.given g.Li.Listener.left g.Li.Listener.rest g.L.Link.identity g.Li.Listener.ended g.Li.Listener.faults
      g.Do.Done.taken g.Do.Done.count g.Do.Done.served listeners listeners l.fn.self l.self done done;
  only : StopsOnly l.fn.self l.self;
  forces : (v : ℕ) → IsForced (parcels_of l.self) v → IsForced (parcels_of l.fn.self) v ⊎ (l.force ≡ true);
  words : Words l.self l.force l.all l.w;
}
