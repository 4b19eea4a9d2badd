use Rattle.std.proofs.Common.{false, sym, ap, ◌∙◌}
use Rattle.std.specs.FinSet as set
use Rattle.server_core.specs.Turns.{Rota}
use Rattle.server_core.specs.InsideTurns.{rota_of}
use Rattle.server_core.proofs.Places.{not_free}
use Rattle.server_core.proofs.TurnSteps.{small, sound_marked, unmarked}
use Rattle.server_core.proofs.turns.Turns.unmark.Goals as goal

pub set_available-requires : goal.set_available-requires
set_available-requires c = small c.self.inside c.args.w c.in-Some.place c.self.invariant (rw (← c.self.view_is) at c.in-Some.ensures)

pub invariant_of-self : goal.invariant_of-self
invariant_of-self c =
    sound_marked c.self.inside c.args.w c.in-Some.place false c.set_available.new.self c.self.invariant (rw (← c.self.view_is) at c.in-Some.ensures) c.set_available.ensures

pub returns-in-Some : goal.returns-in-Some
returns-in-Some c =
    unmarked c.self.inside c.args.w c.in-Some.place c.set_available.new.self c.self.invariant (rw (← c.self.view_is) at c.in-Some.ensures) c.set_available.ensures
    ∙ ap (λ (r : Rota). record r { free = set.remove r.free c.args.w }) c.self.view_is

pub returns-in_default : goal.returns-in_default
returns-in_default c =
    let same = not_free c.self.inside.order.items c.self.inside.places c.self.inside.free c.args.w c.self.invariant.places (rw (← c.self.view_is) at c.in_default.ensures) in
    sym c.self.view_is
    ∙ sym (ap (λ s. record (rota_of c.self.inside) { free = s }) same)
    ∙ ap (λ (r : Rota). record r { free = set.remove r.free c.args.w }) c.self.view_is
