use Rattle.std.proofs.Common.{true, sym, ap, ◌∙◌, cond}
use Rattle.std.specs.FinSet as set
use Rattle.server_core.specs.Core.{in_order}
use Rattle.server_core.specs.Turns.{Rota}
use Rattle.server_core.proofs.Places.{stands_not}
use Rattle.server_core.proofs.TurnSteps.{small, sound_marked, marked}
use Rattle.server_core.proofs.turns.Turns.mark.Goals as goal

pub set_available-requires : goal.set_available-requires
set_available-requires c = small c.self.inside c.args.w c.in-Some.place c.self.invariant (rw (← c.self.view_is) at c.in-Some.ensures)

pub invariant_of-self : goal.invariant_of-self
invariant_of-self c =
    sound_marked c.self.inside c.args.w c.in-Some.place true c.set_available.new.self c.self.invariant (rw (← c.self.view_is) at c.in-Some.ensures) c.set_available.ensures

pub returns-in-Some : goal.returns-in-Some
returns-in-Some c =
    marked c.self.inside c.args.w c.in-Some.place c.set_available.new.self c.self.invariant (rw (← c.self.view_is) at c.in-Some.ensures) c.set_available.ensures
    ∙ ap (λ (r : Rota). record r { free = cond (in_order r.order c.args.w) (set.insert r.free c.args.w) r.free }) c.self.view_is

pub returns-in_default : goal.returns-in_default
returns-in_default c =
    let out = stands_not c.args.self.now.order c.args.w c.in_default.ensures in
    sym (ap (λ b. record c.args.self.now { free = cond b (set.insert c.args.self.now.free c.args.w) c.args.self.now.free }) out)
