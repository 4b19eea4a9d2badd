use Rattle.std.proofs.Common.{ℕ, List, ◌≤◌, arith, drop, length, sym, subst, length-drop}
use Rattle.http1_dispatcher.proofs.outgoing.Outgoing.drop_front.Goals as goal

pub overflow_add-self : goal.overflow_add-self
overflow_add-self c =
    let within : c.args.count ≤ length (drop c.self.inside.written c.self.inside.bytes) =
    subst (λ (bytes : List ℕ). c.args.count ≤ length bytes) (sym c.self.view_is) c.requires in
    record { fits = omega (arith, within, length-drop c.self.inside.written c.self.inside.bytes, c.self.invariant, c.len-size.ensures) }
