-- What the events of a listener are.
use Rattle.std.proofs.Common.{◌≡◌, ℕ, zero, suc, ◌++◌, ◌∷◌, [], ◌+◌, ◌<◌, ◌≤◌, Bool, true, false, true≢false, List, length, get_or, refl, sym, ap, subst, ◌∙◌, arith, get_or-set_other, inl, inr}
use Rattle.std.specs.Prelude.{not, ◌&&◌, nat_lt, slice_index, slice_index_or, slice_set, sum}
use Rattle.std.proofs.lemmas.Bool.{cases_eq}
use Rattle.std.proofs.lemmas.Bool.Decides.{nat_tests}
use Rattle.std.proofs.lemmas.List.Sums.{sum_by-set}
use Rattle.std.specs.FinSet as finite
use Rattle.server_core.specs.Core.{Core, in_order, is_open, may_take, step}
use Rattle.server_core.specs.declared.event.Event.{Event}
use Rattle.server_core.specs.declared.event.Event.TheVariants.{Got, ListenerEnded}
use Rattle.server_acceptor.specs.Logging.{Logs}
use Rattle.server_acceptor.proofs.PlaceSteps.{IsPatient, IsRuled}
use Rattle.server_acceptor.proofs.LogSteps.{logs_one}

pub got_logs : (s u : Core) (t : ℕ) (xs ys : List Event) → is_open s t ≡ true → may_take s ≡ true → u ≡ step s (Got t) → ys ≡ xs ++ Got t ∷ [] → Logs s u xs ys
got_logs s u t xs ys opened may is more = logs_one s u xs ys (Got t) (rw (opened, may) refl) tt is more

pub ended_logs : (s u : Core) (t : ℕ) (xs ys : List Event) → is_open s t ≡ true → u ≡ step s (ListenerEnded t) → ys ≡ xs ++ ListenerEnded t ∷ [] → Logs s u xs ys
ended_logs s u t xs ys opened is more = logs_one s u xs ys (ListenerEnded t) opened tt is more

-- ---- the places of the listeners
-- what was read there
pub read_at : (xs : List ℕ) (t p : ℕ) → t < length xs → p ≡ get_or xs t p → p ≡ slice_index_or xs t 0
read_at [] t p inside is = absurd (omega arith)
read_at (x ∷ xs) zero p inside is = is
read_at (x ∷ xs) (suc t) p inside is = read_at xs t p (omega arith) is

pub sum_raised : (xs : List ℕ) (t p : ℕ) → t < length xs → p ≡ slice_index_or xs t 0 → sum (slice_set xs t (p + 1)) ≡ sum xs + 1
sum_raised xs t p inside is = omega (arith, is, sum_by-set (λ x. x) xs t (p + 1) 0 inside)

set_at_most : (xs : List ℕ) (t n : ℕ) → slice_index (slice_set xs t n) t ≤ n
set_at_most [] t n = omega arith
set_at_most (x ∷ xs) zero n = omega arith
set_at_most (x ∷ xs) (suc t) n = set_at_most xs t n

pub all_below_set : (xs : List ℕ) (t n most : ℕ) → n < most → ((v : ℕ) → slice_index_or xs v 0 < most) → (v : ℕ) → slice_index_or (slice_set xs t n) v 0 < most
all_below_set xs t n most below all v = elim (cases_eq v t) [
  | inl same ↦ rw same (omega (arith, set_at_most xs t n, below))
  | inr other ↦ omega (arith, get_or-set_other xs t v n 0 other, all v)
]

-- ---- a listener that is open may still fail
pub opened_at : (s : Core) (t : ℕ) → is_open s t ≡ true → slice_index_or s.ended t true ≡ false
opened_at s t opened = by_both (nat_lt t (length s.ended)) (slice_index_or s.ended t true) opened
  where
    by_both : (p q : Bool) → (p && not q) ≡ true → q ≡ false
    by_both p false e = refl
    by_both true true e = absurd (true≢false (sym e))
    by_both false true e = absurd (true≢false (sym e))

pub opened_below : (s : Core) (t : ℕ) → is_open s t ≡ true → t < length s.ended
opened_below s t opened = grind (arith, nat_tests)

pub may_fail : (s : Core) (limit t : ℕ) → IsPatient s limit → is_open s t ≡ true → slice_index s.failures t < limit
may_fail s limit t patient opened = patient t (opened_at s t opened)

pub patient_got : (s u : Core) (limit t : ℕ) → IsPatient s limit → is_open s t ≡ true → u ≡ step s (Got t) → IsPatient u limit
patient_got s u limit t patient opened is = subst (λ c. IsPatient c limit) (sym is) (λ v still. elim (cases_eq v t) [
  | inl same ↦ rw same (omega (arith, set_at_most s.failures t 0, may_fail s limit t patient opened))
  | inr other ↦ omega (arith, get_or-set_other s.failures t v 0 0 other, patient v still)
])

pub marked_at : (xs : List Bool) (t : ℕ) → slice_index_or (slice_set xs t true) t true ≡ true
marked_at [] t = refl
marked_at (x ∷ xs) zero = refl
marked_at (x ∷ xs) (suc t) = marked_at xs t

pub patient_ended : (s u : Core) (limit t : ℕ) → IsPatient s limit → u ≡ step s (ListenerEnded t) → IsPatient u limit
patient_ended s u limit t patient is = subst (λ c. IsPatient c limit) (sym is) (λ v still. elim (cases_eq v t) [
  | inl same ↦ absurd (true≢false (sym (marked_at s.ended t) ∙ ap (λ x. slice_index_or (slice_set s.ended t true) x true) (sym same) ∙ still))
  | inr other ↦ patient v (sym (get_or-set_other s.ended t v true true other) ∙ still)
])

-- the rule of the limit stays, where the workers stay as they are
pub ruled_kept : (s u : Core) (limit : ℕ) → u.order ≡ s.order → u.free ≡ s.free → u.out ≡ s.out → IsRuled s limit → IsRuled u limit
ruled_kept s u limit order free out ruled w there =
    ap (λ f. finite.contains f w) free ∙ ruled w (ap (λ xs. in_order xs w) (sym order) ∙ there) ∙ ap (λ xs. nat_lt (slice_index xs w) limit) (sym out)
