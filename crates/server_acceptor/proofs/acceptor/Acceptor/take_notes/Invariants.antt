use Rattle.std.proofs.Common.{◌⊎◌, ◌≤◌, ◌<◌, ℕ}
use Rattle.server_acceptor.specs.Accepting.{HasTold, IsShort}
use Rattle.server_acceptor.specs.Acceptors.{out_of}
use Rattle.server_acceptor.specs.Handing.{Hands}
use Rattle.server_acceptor.proofs.acceptor.Acceptor.take_notes.Given as goal

abbrev pub invariant-loop-w : goal.invariant-loop-w
invariant-loop-w g l = record {
  hands : Hands g.L.Link.identity g.Do.Done.taken g.Do.Done.count g.Do.Done.served l.fn.self l.self l.fn.done l.done;
  spare : out_of l.self ≤ g.Do.Done.spare l.done;
  told : (v : ℕ) → v < l.w → HasTold l.self v ⊎ IsShort l.self;
}
