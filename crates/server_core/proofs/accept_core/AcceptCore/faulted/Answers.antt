use Rattle.std.proofs.Common.{◌≡◌, true, sym, subst}
use Rattle.server_core.specs.Core.{allowed, in_order, is_worker}
use Rattle.server_core.specs.Inside.{core_of}
use Rattle.server_core.specs.declared.event.Event.TheVariants.{Faulted}
use Rattle.server_core.proofs.Kept.{kept_faulted}
use Rattle.server_core.proofs.Orders.{and_right}
use Rattle.server_core.proofs.accept_core.AcceptCore.faulted.Goals as goal

pub invariant_of-self : goal.invariant_of-self
invariant_of-self c =
    let a : allowed (core_of c.self.inside) (Faulted c.args.w) ≡ true = subst (λ s. allowed s (Faulted c.args.w) ≡ true) (sym c.self.view_is) c.requires in
    let here = and_right (is_worker (core_of c.self.inside) c.args.w) (in_order c.self.inside.turns.order c.args.w) a in
    rw c.remove.ensures (kept_faulted (core_of c.self.inside) c.args.w c.self.invariant here)
