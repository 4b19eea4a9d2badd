use Rattle.std.proofs.Common.{◌≡◌, ◌+◌, get_or, drop, Some, true, false, sym, ap, ◌∙◌}
use Rattle.std.specs.Prelude.{find}
use Rattle.std.specs.FinSet as set
use Rattle.server_core.specs.Turns.{Rota, is_left}
use Rattle.server_core.proofs.Walks.{found_first, passed_first, found_none}
use Rattle.server_core.proofs.turns.Turns.first_from.Goals as goal

pub returns-then-not-holds : goal.returns-then-not-holds
returns-then-not-holds c =
    let value : c.from-w.result ≡ get_or c.self.inside.order.items c.in-Some.place 0 = c.from-w.ensures ∙ ap (λ xs. get_or xs c.in-Some.place 0) c.deref.ensures.0 in
    let kept : set.contains c.args.passed.now (get_or c.self.inside.order.items c.in-Some.place 0) ≡ false = ap (set.contains c.args.passed.now) (sym value) ∙ sym c.if-not-holds.ensures in
    ap (λ w. Some w) value
    ∙ sym (found_first c.self.inside.order.items c.self.inside.places c.self.inside.free c.args.passed.now c.loop-place.from c.in-Some.place c.self.invariant.places c.self.invariant.marks c.in-Some.ensures kept)
    ∙ ap (λ (r : Rota). find (is_left r.free c.args.passed.now) (drop c.loop-place.from r.order)) c.self.view_is
    ∙ c.loop-place.invariant

pub loop-place-preserved : goal.loop-place-preserved
loop-place-preserved c =
    let value : c.from-w.result ≡ get_or c.self.inside.order.items c.in-Some.place 0 = c.from-w.ensures ∙ ap (λ xs. get_or xs c.in-Some.place 0) c.deref.ensures.0 in
    let over : set.contains c.args.passed.now (get_or c.self.inside.order.items c.in-Some.place 0) ≡ true = ap (set.contains c.args.passed.now) (sym value) ∙ sym c.if-not-holds.ensures in
    sym (ap (λ (r : Rota). find (is_left r.free c.args.passed.now) (drop (c.in-Some.place + 1) r.order)) c.self.view_is)
    ∙ passed_first c.self.inside.order.items c.self.inside.places c.self.inside.free c.args.passed.now c.loop-place.from c.in-Some.place c.self.invariant.places c.self.invariant.marks c.in-Some.ensures over
    ∙ ap (λ (r : Rota). find (is_left r.free c.args.passed.now) (drop c.loop-place.from r.order)) c.self.view_is
    ∙ c.loop-place.invariant

pub returns : goal.returns
returns c =
    sym (found_none c.self.inside.order.items c.self.inside.places c.self.inside.free c.args.passed.now c.loop-place.from c.self.invariant.places c.in_default.ensures)
    ∙ ap (λ (r : Rota). find (is_left r.free c.args.passed.now) (drop c.loop-place.from r.order)) c.self.view_is
    ∙ c.loop-place.invariant
