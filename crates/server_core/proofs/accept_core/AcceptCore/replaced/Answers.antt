use Rattle.std.proofs.Common.{◌≡◌, true, length, sym, subst, arith}
use Rattle.server_core.specs.Core.{allowed}
use Rattle.server_core.specs.Inside.{core_of}
use Rattle.server_core.specs.declared.event.Event.TheVariants.{Replaced}
use Rattle.server_core.proofs.Kept.{kept_replaced, returns_out, returns_below}
use Rattle.server_core.proofs.Orders.{has_room}
use Rattle.server_core.proofs.accept_core.AcceptCore.replaced.Goals as goal

pub add-requires-clause-room : goal.add-requires-clause-room
add-requires-clause-room c =
    let a : allowed (core_of c.self.inside) (Replaced c.args.w) ≡ true = subst (λ s. allowed s (Replaced c.args.w) ≡ true) (sym c.self.view_is) c.requires in
    let h = c.self.invariant in
    let small = returns_below (core_of c.self.inside) c.args.w a in
    let room = has_room (length c.self.inside.out.items) c.self.inside.turns.order c.args.w small (returns_out (core_of c.self.inside) c.args.w a) h.numbers h.distinct in
    let workers = h.workers in
    omega arith

pub invariant_of-self : goal.invariant_of-self
invariant_of-self c =
    let a : allowed (core_of c.self.inside) (Replaced c.args.w) ≡ true = subst (λ s. allowed s (Replaced c.args.w) ≡ true) (sym c.self.view_is) c.requires in
    rw c.add.ensures (kept_replaced (core_of c.self.inside) c.args.w c.self.invariant a)
