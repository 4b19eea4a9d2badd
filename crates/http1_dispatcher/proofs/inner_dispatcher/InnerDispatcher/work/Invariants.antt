use Rattle.std.proofs.Common.{◌≡◌}
use Rattle.futures.specs.Task.{Keeps}
use Rattle.http1_dispatcher.specs.Dispatching.{Goes}
use Rattle.http1_dispatcher.specs.Steps.{pace}
use Rattle.http1_dispatcher.proofs.inner_dispatcher.InnerDispatcher.work.Given as goal

abbrev pub invariant-loop-self : goal.invariant-loop-self
invariant-loop-self g l = record {
  terms : l.self.terms ≡ l.fn.self.terms;
  going : Goes g.L.Link g.S.Service g.S.Error.ErrorResponse.response g.S.Future.Future g.X.Service g.X.Error.ErrorResponse.response g.X.Future.Future l.self;
  taken : g.L.Link.taken l.self.link ≡ g.L.Link.taken l.fn.self.link;
  read_waits : g.L.Link.read_waits l.self.link ≡ g.L.Link.read_waits l.fn.self.link;
  write_waits : g.L.Link.write_waits l.self.link ≡ g.L.Link.write_waits l.fn.self.link;
  waits : l.self.waits ≡ l.fn.self.waits;
  kept : Keeps l.fn.cx l.cx;
}

abbrev pub decreases-loop-self : goal.decreases-loop-self
decreases-loop-self g l = pace l.self.exchange
