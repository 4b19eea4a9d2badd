use Rattle.server_core.specs.Inside.{core_of}
use Rattle.server_core.proofs.Picks.{picked_none, picked_below}
use Rattle.server_core.proofs.accept_core.AcceptCore.pick.Goals as goal

pub returns-clause-none : goal.returns-clause-none
returns-clause-none c = rw (c.first.ensures, ← c.self.view_is) (picked_none (core_of c.self.inside) c.args.passed.now c.self.invariant)

pub returns-clause-number : goal.returns-clause-number
returns-clause-number c = rw (c.first.ensures, ← c.self.view_is) (picked_below (core_of c.self.inside) c.args.passed.now c.self.invariant)
