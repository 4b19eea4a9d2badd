use Rattle.std.proofs.Common.{◌≢◌, ◌≤◌, ◌<◌, ℕ}
use Rattle.server_acceptor.specs.Accepting.{HasTold}
use Rattle.server_acceptor.specs.Acceptors.{out_of, workers_of}
use Rattle.server_acceptor.specs.Handing.{known_at, Hands}
use Rattle.server_acceptor.proofs.acceptor.Acceptor.take_known.Given as goal

abbrev pub invariant-loop-self : goal.invariant-loop-self
invariant-loop-self g l = record {
  hands : Hands g.L.Link.identity g.Do.Done.taken g.Do.Done.count g.Do.Done.served l.fn.self l.self l.fn.done l.done;
  spare : out_of l.self ≤ g.Do.Done.spare l.done;
  number : l.w < workers_of l.self;
  others : (v : ℕ) → v ≢ l.w → HasTold l.fn.self v → HasTold l.self v;
}

abbrev pub decreases-loop-self : goal.decreases-loop-self
decreases-loop-self g l = known_at l.self.notes.items l.w
