use Rattle.std.proofs.Common.{◌≡◌, ◌-◌, length, true≢false, sym, ap, ◌∙◌, arith}
use Rattle.std.specs.FinSet as set
use Rattle.server_core.specs.Core.{without, place_or_first}
use Rattle.server_core.specs.Turns.{Rota}
use Rattle.server_core.proofs.Leaving.{last_of}
use Rattle.server_core.proofs.Places.{stands_not}
use Rattle.server_core.proofs.TurnSteps.{IsAt, number_of, number_of_last, order_left, marks_left, sound_left, left}
use Rattle.server_core.proofs.turns.Turns.remove.Goals as goal

pub bounds-self-inside-moved : goal.bounds-self-inside-moved
bounds-self-inside-moved c =
    let last : c.len-last.result - 1 ≡ length c.self.inside.order.items - 1 = ap (λ n. n - 1) c.len-last.ensures.value in
    let moved : c.from-moved.result ≡ last_of c.self.inside.order.items = rw (c.deref.ensures.0, last) at c.from-moved.ensures in
    let inside = number_of_last c.self.inside c.args.w c.in-Some.place c.self.invariant (rw (← c.self.view_is) at c.in-Some.ensures) in
    omega arith

pub offset_bounds-self-inside-w : goal.offset_bounds-self-inside-w
offset_bounds-self-inside-w c =
    let inside = number_of c.self.inside c.args.w c.in-Some.place c.self.invariant (rw (← c.self.view_is) at c.in-Some.ensures) in
    omega arith

pub bounds-self-inside-w : goal.bounds-self-inside-w
bounds-self-inside-w c =
    let inside = number_of c.self.inside c.args.w c.in-Some.place c.self.invariant (rw (← c.self.view_is) at c.in-Some.ensures) in
    omega arith

pub invariant_of-self : goal.invariant_of-self
invariant_of-self c =
    let at : IsAt c.self.inside c.args.w c.in-Some.place = rw (← c.self.view_is) at c.in-Some.ensures in
    let last : c.len-last.result - 1 ≡ length c.self.inside.order.items - 1 = ap (λ n. n - 1) c.len-last.ensures.value in
    let moved : c.from-moved.result ≡ last_of c.self.inside.order.items = rw (c.deref.ensures.0, last) at c.from-moved.ensures in
    let order = order_left c.self.inside c.args.w c.in-Some.place c.swap_remove.result c.swap_remove.new.self.items c.self.invariant at c.swap_remove.ensures.value c.swap_remove.ensures.items in
    let marks = marks_left c.self.inside.order.items c.self.inside.free c.set_available.new.self c.set_available-in-Some.new.self c.in-Some.place (c.len-last.result - 1) c.holds-is_free.result last
    c.holds-is_free.ensures c.set_available.ensures c.set_available-in-Some.ensures in
    let sound = sound_left c.self.inside c.args.w c.in-Some.place c.from-moved.result c.swap_remove.new.self.items c.set_available-in-Some.new.self c.self.invariant at moved order marks in
    record { fits = sound.0; places = sound.1; marks = sound.2 }

pub returns-in-Some : goal.returns-in-Some
returns-in-Some c =
    let at : IsAt c.self.inside c.args.w c.in-Some.place = rw (← c.self.view_is) at c.in-Some.ensures in
    let last : c.len-last.result - 1 ≡ length c.self.inside.order.items - 1 = ap (λ n. n - 1) c.len-last.ensures.value in
    let order = order_left c.self.inside c.args.w c.in-Some.place c.swap_remove.result c.swap_remove.new.self.items c.self.invariant at c.swap_remove.ensures.value c.swap_remove.ensures.items in
    let marks = marks_left c.self.inside.order.items c.self.inside.free c.set_available.new.self c.set_available-in-Some.new.self c.in-Some.place (c.len-last.result - 1) c.holds-is_free.result last
    c.holds-is_free.ensures c.set_available.ensures c.set_available-in-Some.ensures in
    let free = left c.self.inside c.args.w c.in-Some.place c.swap_remove.new.self.items c.set_available-in-Some.new.self c.self.invariant at order marks in
    let next = c.place_or_first-self-inside.ensures ∙ ap (λ o. place_or_first o c.self.inside.next) (c.as_slice.ensures.value ∙ order) in
    rw (free, next, order) (ap (λ (r : Rota). record r { order = without r.order c.args.w; next = place_or_first (without r.order c.args.w) r.next; free = set.remove r.free c.args.w }) c.self.view_is)

pub returns-in_default : goal.returns-in_default
returns-in_default c = absurd (true≢false (sym c.requires ∙ stands_not c.args.self.now.order c.args.w c.in_default.ensures))
