use Rattle.std.proofs.Common.{◌≡◌, ◌+◌, ◌≤◌, false, Result, Ok, Err, arith, refl, sym, true≢false, ◌∙◌}
use Rattle.std.specs.Prelude.{OnOk, is_err}
use Rattle.std.specs.VecDeque.{deque_capacity, deque_len}
use Rattle.server_worker.proofs.connections.Connections.new.Goals as goal

-- what holds where there is no error
where_ok : {T E : Type 0} (r : Result T E) (P : Type 0) → is_err r ≡ false → OnOk r P → P
where_ok (Ok x) P unerred holds = holds
where_ok (Err e) P unerred holds = absurd (true≢false unerred)

pub invariant_of-result-clause-places : goal.invariant_of-result-clause-places
invariant_of-result-clause-places g c = omega (arith, c.new.ensures.len, c.new-3.ensures.len)

pub invariant_of-result-clause-ways : goal.invariant_of-result-clause-ways
invariant_of-result-clause-ways g c = omega (arith, c.new-owed.ensures.len, c.reserve.ensures.len, c.new.ensures.len, c.new-2.ensures.len, c.new-3.ensures.len)

pub invariant_of-result-clause-stays : goal.invariant_of-result-clause-stays
invariant_of-result-clause-stays g c = omega (arith, c.new.ensures.len, c.new-2.ensures.len, c.new-3.ensures.len)

pub invariant_of-result-clause-way_of_ready : goal.invariant_of-result-clause-way_of_ready
invariant_of-result-clause-way_of_ready g c _ =
    let room : deque_len c.reserve.new.self + 1 ≤ deque_capacity c.reserve.new.self = where_ok c.reserve.result _ (sym c.is_err.ensures.value ∙ c.if-is_err.false) c.reserve.ensures.ok in
    omega (arith, room, c.new-owed.ensures.len, c.reserve.ensures.len, c.new.ensures.len, c.new-2.ensures.len, c.new-3.ensures.len)

pub invariant_of-result-clause-forces : goal.invariant_of-result-clause-forces
invariant_of-result-clause-forces g c is = absurd (true≢false (sym is))

pub returns-then-is_err-clause-fresh : goal.returns-then-is_err-clause-fresh
returns-then-is_err-clause-fresh g c = tt

pub returns-then-is_err-clause-parcels : goal.returns-then-is_err-clause-parcels
returns-then-is_err-clause-parcels g c = tt

pub returns-then-is_err-clause-notes : goal.returns-then-is_err-clause-notes
returns-then-is_err-clause-notes g c = tt

pub returns-then-is_err-clause-back : goal.returns-then-is_err-clause-back
returns-then-is_err-clause-back g c = refl

pub returns-clause-fresh : goal.returns-clause-fresh
returns-clause-fresh g c = record { queue = c.new.ensures.items; strays = c.new-2.ensures.items; live = c.new-3.ensures.items; owed = c.reserve.ensures.items ∙ c.new-owed.ensures.items; stopped = refl; forced = refl; told = refl }

pub returns-clause-parcels : goal.returns-clause-parcels
returns-clause-parcels g c = refl

pub returns-clause-notes : goal.returns-clause-notes
returns-clause-notes g c = refl

pub returns-clause-back : goal.returns-clause-back
returns-clause-back g c = tt
