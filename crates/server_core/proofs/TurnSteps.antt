-- What each change of the turns does to the rota.
use Rattle.std.proofs.Common.{◌≡◌, ℕ, ◌+◌, ◌-◌, ◌<◌, ◌≤◌, Bool, true, false, cond, List, [], ◌∷◌, ◌++◌, length, get_or, set as put, Some, None, sym, ap, ◌∙◌, arith, length-append}
use Rattle.std.specs.Prelude.{◌==◌}
use Rattle.std.specs.List.{position, swap_remove}
use Rattle.std.specs.FinSet as set
use Rattle.server_core.specs.Core.{in_order, place_of, without}
use Rattle.server_core.specs.Numbers.{Numbers, with_mark}
use Rattle.server_core.specs.Turns.{workers_at, ArePlaces, AreWithin}
use Rattle.server_core.specs.InsideTurns.{rota_of, IsSound}
use Rattle.server_core.specs.declared.turns.Turns.TheInside.{Inside}
use Rattle.server_core.proofs.Leaving.{Leaves, has_number, last_of, marks_without, length-removed, places_left, free_left, within_left}
use Rattle.server_core.proofs.Orders.{removed}
use Rattle.server_core.proofs.Places.{placed_at, place_at, stands, mark_changed, within_changed, places_added, free_added, within_added}

abbrev pub IsAt : Inside → ℕ → ℕ → Type 0
IsAt t w k = Some k ≡ position (λ x. x == w) t.order.items

pub inside : (t : Inside) (w k : ℕ) → IsSound t → IsAt t w k → k < length t.order.items
inside t w k h e = (h.places.in_order w k (placed_at t.order.items t.places w k h.places e)).0

pub small : (t : Inside) (w k : ℕ) → IsSound t → IsAt t w k → k < 512
small t w k h e = let here = inside t w k h e in let fits = h.fits in omega arith

-- ---- a mark
pub sound_marked : (t : Inside) (w k : ℕ) (mark : Bool) (marks : Numbers) → IsSound t → IsAt t w k → marks ≡ with_mark t.free k mark → IsSound (record t { free = marks })
sound_marked t w k mark marks h e is = record {
  fits = h.fits;
  places = h.places;
  marks = rw is (within_changed t.free t.order.items k mark (inside t w k h e) h.marks);
}

free_marked : (t : Inside) (w k : ℕ) (mark : Bool) (marks : Numbers) → IsSound t → IsAt t w k → marks ≡ with_mark t.free k mark
    → workers_at t.order.items marks ≡ with_mark (workers_at t.order.items t.free) w mark
free_marked t w k mark marks h e is =
    ap (workers_at t.order.items) is ∙ mark_changed t.order.items t.places t.free w k mark h.places (placed_at t.order.items t.places w k h.places e)

pub marked : (t : Inside) (w k : ℕ) (marks : Numbers) → IsSound t → IsAt t w k → marks ≡ set.insert t.free k
    → rota_of (record t { free = marks }) ≡ record (rota_of t) { free = cond (in_order t.order.items w) (set.insert (workers_at t.order.items t.free) w) (workers_at t.order.items t.free) }
marked t w k marks h e is =
    let here = stands t.order.items w k e in
    ap (λ (s : Numbers). record (rota_of t) { free = s }) (free_marked t w k true marks h e is ∙ sym (ap (λ b. cond b (set.insert (workers_at t.order.items t.free) w) (workers_at t.order.items t.free)) here))

pub unmarked : (t : Inside) (w k : ℕ) (marks : Numbers) → IsSound t → IsAt t w k → marks ≡ set.remove t.free k
    → rota_of (record t { free = marks }) ≡ record (rota_of t) { free = set.remove (workers_at t.order.items t.free) w }
unmarked t w k marks h e is = ap (λ (s : Numbers). record (rota_of t) { free = s }) (free_marked t w k false marks h e is)

-- ---- one more worker
pub sound_added : (t : Inside) (w : ℕ) (order : List ℕ) (place : ℕ) (marks : Numbers) → IsSound t → length t.order.items < 512 → in_order t.order.items w ≡ false → w < length t.places
    → order ≡ t.order.items ++ w ∷ [] → place ≡ length t.order.items → marks ≡ set.insert t.free place
    → (length order ≤ 512) × ArePlaces order (put t.places w (Some place)) × AreWithin marks order
sound_added t w order place marks h room out inside e f g =
    let size : length order ≡ length t.order.items + 1 = ap length e ∙ length-append t.order.items (w ∷ []) in (
      omega arith,
      rw (e, f) (places_added t.order.items t.places w h.places out inside),
      rw (e, g, f) (within_added t.order.items t.free w h.marks),
    )

pub added : (t : Inside) (w : ℕ) (order : List ℕ) (place : ℕ) (marks : Numbers) → IsSound t → in_order t.order.items w ≡ false → w < length t.places
    → order ≡ t.order.items ++ w ∷ [] → place ≡ length t.order.items → marks ≡ set.insert t.free place
    → workers_at order marks ≡ set.insert (workers_at t.order.items t.free) w
added t w order place marks h out inside e f g =
    rw (e, g, f) (free_added t.order.items t.places t.free w h.places h.marks out inside)

-- ---- one worker leaves
pub leaves : (t : Inside) (w k : ℕ) → IsSound t → IsAt t w k → Leaves t.order.items t.places w k
leaves t w k h e = record { are = h.places; there = placed_at t.order.items t.places w k h.places e; bound = inside t w k h e }

pub number_of : (t : Inside) (w k : ℕ) → IsSound t → IsAt t w k → w < length t.places
number_of t w k h e = has_number t.places w k (placed_at t.order.items t.places w k h.places e)

pub number_of_last : (t : Inside) (w k : ℕ) → IsSound t → IsAt t w k → last_of t.order.items < length t.places
number_of_last t w k h e =
    let here = inside t w k h e in
    has_number t.places (last_of t.order.items) (length t.order.items - 1) (h.places.of_order (length t.order.items - 1) (omega arith))

pub place_of_it : (t : Inside) (w k : ℕ) → IsSound t → IsAt t w k → k ≡ place_of t.order.items w
place_of_it t w k h e = sym (place_at t.order.items t.places w k h.places (placed_at t.order.items t.places w k h.places e))

pub order_left : (t : Inside) (w k r : ℕ) (order : List ℕ) → IsSound t → IsAt t w k → r ≡ get_or t.order.items k r → order ≡ swap_remove t.order.items k r
    → order ≡ without t.order.items w
order_left t w k r order h e value is = is ∙ removed t.order.items w r k (stands t.order.items w k e) (place_of_it t w k h e) value

pub without_is : (t : Inside) (w k : ℕ) → IsSound t → IsAt t w k → without t.order.items w ≡ swap_remove t.order.items k w
without_is t w k h e = ap (λ i. swap_remove t.order.items i w) (sym (place_of_it t w k h e))

pub marks_left : (order : List ℕ) (marks first final : Numbers) (k last : ℕ) (is_free : Bool) → last ≡ length order - 1 → is_free ≡ set.contains marks last
    → first ≡ with_mark marks k is_free → final ≡ set.remove first last → final ≡ marks_without order marks k
marks_left order marks first final k last is_free e f g i = i ∙ ap (λ s. set.remove s last) (g ∙ ap (with_mark marks k) f) ∙ ap (λ n. set.remove (with_mark marks k (set.contains marks n)) n) e

pub sound_left : (t : Inside) (w k moved : ℕ) (order : List ℕ) (marks : Numbers) → IsSound t → IsAt t w k
    → moved ≡ last_of t.order.items → order ≡ without t.order.items w → marks ≡ marks_without t.order.items t.free k
    → (length order ≤ 512) × ArePlaces order (put (put t.places moved (Some k)) w None) × AreWithin marks order
sound_left t w k moved order marks h e f g i =
    let here = leaves t w k h e in
    let same = g ∙ without_is t w k h e in
    let fits = h.fits in
    let size : length order ≡ length t.order.items - 1 = ap length same ∙ length-removed t.order.items k w (inside t w k h e) in (
      omega arith,
      rw (same, f) (places_left t.order.items t.places w k here),
      rw (same, i) (within_left t.order.items t.places t.free w k here h.marks),
    )

pub left : (t : Inside) (w k : ℕ) (order : List ℕ) (marks : Numbers) → IsSound t → IsAt t w k
    → order ≡ without t.order.items w → marks ≡ marks_without t.order.items t.free k
    → workers_at order marks ≡ set.remove (workers_at t.order.items t.free) w
left t w k order marks h e g i = rw (g ∙ without_is t w k h e, i) (free_left t.order.items t.places t.free w k (leaves t w k h e))
