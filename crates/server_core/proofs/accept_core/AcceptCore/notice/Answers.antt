use Rattle.server_core.specs.Inside.{core_of}
use Rattle.server_core.proofs.Kept.{kept_notice}
use Rattle.server_core.proofs.accept_core.AcceptCore.notice.Goals as goal

pub invariant_of-self : goal.invariant_of-self
invariant_of-self c = rw c.mark.ensures (kept_notice (core_of c.self.inside) c.args.w c.self.invariant)
