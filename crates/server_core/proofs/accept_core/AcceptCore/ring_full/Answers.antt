use Rattle.server_core.specs.Inside.{core_of}
use Rattle.server_core.proofs.Kept.{kept_ring_full}
use Rattle.server_core.proofs.accept_core.AcceptCore.ring_full.Goals as goal

pub invariant_of-self : goal.invariant_of-self
invariant_of-self c = rw (c.unmark.ensures, c.go_on_behind.ensures) (kept_ring_full (core_of c.self.inside) c.args.w c.self.invariant)
