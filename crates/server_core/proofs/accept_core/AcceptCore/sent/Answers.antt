use Rattle.std.proofs.Common.{◌≡◌, true, sym, subst}
use Rattle.server_core.specs.Core.{allowed}
use Rattle.server_core.specs.Inside.{core_of}
use Rattle.server_core.specs.declared.event.Event.TheVariants.{Sent}
use Rattle.server_core.proofs.Kept.{kept_sent}
use Rattle.server_core.proofs.accept_core.AcceptCore.sent.Goals as goal

pub invariant_of-self : goal.invariant_of-self
invariant_of-self c =
    let a : allowed (core_of c.self.inside) (Sent c.args.w c.args.remains) ≡ true = subst (λ s. allowed s (Sent c.args.w c.args.remains) ≡ true) (sym c.self.view_is) c.requires in
    rw (c.unmark_unless.ensures, c.go_on_behind.ensures, c.one_more.ensures) (kept_sent (core_of c.self.inside) c.args.w c.args.remains c.self.invariant a)
