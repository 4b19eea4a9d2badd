use Rattle.std.proofs.Common.{length}
use Rattle.server_core.proofs.Picks.{all_below}
use Rattle.server_core.proofs.accept_core.AcceptCore.order.Goals as goal

pub returns-clause-numbers : goal.returns-clause-numbers
returns-clause-numbers c = rw (c.order.ensures, ← c.self.view_is) (all_below (length c.self.inside.out.items) c.self.inside.turns.order c.self.invariant.numbers)
