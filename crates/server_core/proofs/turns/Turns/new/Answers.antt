use Rattle.std.proofs.Common.{◌≡◌, ◌∷◌, [], ◌++◌, length, refl, ap, ◌∙◌, arith}
use Rattle.std.specs.FinSet as set
use Rattle.std.proofs.lemmas.List.FromFn.{length-range_with_len}
use Rattle.server_core.specs.Core.{in_order}
use Rattle.server_core.specs.Turns.{Rota}
use Rattle.server_core.proofs.Starts.{past_range, range_next, all_next}
use Rattle.server_core.proofs.turns.Turns.new.Goals as goal

pub add-requires-clause-room : goal.add-requires-clause-room
add-requires-clause-room c =
    let size : length c.loop-w.turns.order ≡ c.loop-w.w = ap (λ (r : Rota). length r.order) c.loop-w.invariant ∙ length-range_with_len 0 c.loop-w.w in
    omega arith

pub add-requires-clause-absent : goal.add-requires-clause-absent
add-requires-clause-absent c = ap (λ (r : Rota). in_order r.order c.loop-w.w) c.loop-w.invariant ∙ past_range c.loop-w.w

pub loop-w-preserved : goal.loop-w-preserved
loop-w-preserved c =
    c.add.ensures
    ∙ ap (λ (r : Rota). record r { order = r.order ++ c.loop-w.w ∷ []; free = set.insert r.free c.loop-w.w }) c.loop-w.invariant
    ∙ rw (range_next c.loop-w.w, all_next c.loop-w.w) refl
