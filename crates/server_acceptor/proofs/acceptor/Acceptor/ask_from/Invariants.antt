use Rattle.std.proofs.Common.{◌≡◌, ◌≤◌, ◌⊎◌, ℕ}
use Rattle.std.specs.Prelude.{slice_index_or}
use Rattle.server_run.specs.Delivery.{given_at}
use Rattle.server_acceptor.specs.Accepting.{MayAsk, Proceeds}
use Rattle.server_acceptor.specs.Acceptors.{out_of, places_of}
use Rattle.server_acceptor.proofs.OutSteps.{AskedTo}
use Rattle.server_acceptor.proofs.acceptor.Acceptor.ask_from.Given as goal

abbrev pub invariant-loop-t : goal.invariant-loop-t
invariant-loop-t g l = record {
  proceeds : Proceeds g.Li.Listener.given g.Li.Listener.left g.Li.Listener.rest g.L.Link.identity g.Li.Listener.ended g.Li.Listener.faults g.Do.Done.taken g.Do.Done.count g.Do.Done.served
      l.fn.listeners.items l.listeners.items l.fn.self l.self l.fn.done l.done;
  asked : AskedTo g.Li.Listener.given g.Li.Listener.waits g.Li.Listener.skips l.now l.fn.listeners.items l.listeners.items l.fn.self l.self l.from l.t;
  above : l.from ≤ l.t;
  below : (l.t ≤ l.to) ⊎ (l.t ≡ l.from);
  may : MayAsk l.self;
  given : (v : ℕ) → slice_index_or (places_of l.self) v 0 ≤ given_at g.Li.Listener.given l.listeners.items v;
  spare : out_of l.self ≤ g.Do.Done.spare l.done;
}
