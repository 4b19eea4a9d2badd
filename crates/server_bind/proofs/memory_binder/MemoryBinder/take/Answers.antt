use Rattle.server_run.specs.contracts.memory_link.MemoryLinkLink.TheImpl as link
use Rattle.server_run.specs.contracts.memory_listener.MemoryListenerListener.TheImpl as listener
use Rattle.server_bind.proofs.Stocks.{behind_first}
use Rattle.server_bind.specs.Stock.{IsSteady}
use Rattle.server_bind.proofs.memory_binder.MemoryBinder.take.Goals as goal

pub invariant_of-self : goal.invariant_of-self
invariant_of-self c = record {
  steady = behind_first (IsSteady listener.ghosts.left listener.ghosts.rest link.ghosts.identity) c.in-Some-Some.field-0 c.pop_front.new.self.items
      (rw c.in-Some-Some.ensures.items at c.args.self.now.steady);
}
