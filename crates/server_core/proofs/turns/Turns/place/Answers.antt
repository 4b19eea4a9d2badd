use Rattle.std.proofs.Common.{◌≤◌, length, Some, None, sym, ap, ◌∙◌, arith}
use Rattle.std.proofs.Math.ListN.{get_or-eq_default}
use Rattle.std.proofs.lemmas.Bool.Decides.{nat_tests}
use Rattle.server_core.proofs.Places.{place_is}
use Rattle.server_core.proofs.turns.Turns.place.Goals as goal

pub returns-in_err-place : goal.returns-in_err-place
returns-in_err-place c =
    let there = place_is c.self.inside.order.items c.self.inside.places c.self.invariant.places c.args.w in
    let past : length c.self.inside.places ≤ c.args.w = let none = c.in_err-place.ensures.lookup.0 in grind (arith, nat_tests) in
    rw (← c.self.view_is, ← there) (c.from_residual.ensures ∙ sym (get_or-eq_default c.self.inside.places None past))

pub returns-in_err-place-2 : goal.returns-in_err-place-2
returns-in_err-place-2 c =
    let there = place_is c.self.inside.order.items c.self.inside.places c.self.invariant.places c.args.w in
    rw (← c.self.view_is, ← there) (c.from_residual-in_err-place-2.ensures ∙ sym c.in_err-place-2.was ∙ c.in_ok-place.ensures.lookup.3.1 None)

pub returns : goal.returns
returns c =
    let there = place_is c.self.inside.order.items c.self.inside.places c.self.invariant.places c.args.w in
    rw (← c.self.view_is, ← there) (ap (λ k. Some k) c.from.ensures ∙ sym c.in_ok-place-2.was ∙ c.in_ok-place.ensures.lookup.3.1 None)
