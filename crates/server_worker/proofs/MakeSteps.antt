-- The making of one service more was polled.
use Rattle.std.proofs.Common.{◌≡◌, ◌≢◌, ◌<◌, ◌≤◌, ℕ, ◌+◌, List, length, set, IfSome, slice_get, get_or, Some, true, subst, ap, refl, sym, ◌∙◌, arith, inl, inr}
use Rattle.std.proofs.Math.ListN.{length-set}
use Rattle.std.proofs.lemmas.Bool.{cases_eq}
use Rattle.std.proofs.lemmas.Option.{slice_get_read}
use Rattle.server_worker.proofs.Lists.{slice_get-set_same, slice_get-set_other}
use Rattle.server_worker.specs.Standing.{AllMade, AtSlot, HasErred, IsMade, MadeOrWaits, fits, fits_at}
use Rattle.service_core.specs.declared.watched.Watched.{Watched}
use Rattle.worker_core.specs.declared.service_status.ServiceStatus.{ServiceStatus}
use Rattle.server_worker.specs.declared.slot.Slot.{Slot}
use Rattle.server_worker.specs.declared.slot.Slot.TheVariants.{Making, Made, Failed, Remaking, Gone}

pub record MakesUpTo {Fut S E : Type 0} (P : ℕ → Slot Fut S E → Type 0) (first now : List (Slot Fut S E)) (n : ℕ) : Type 0 where
  pub slots : (t : ℕ) → IfSome (slice_get now t) (P t)
  pub as_many : length now ≡ length first
  pub waits : (t : ℕ) → t < n → t < length now → AtSlot MadeOrWaits (slice_get first t) (slice_get now t)
  pub rest : (t : ℕ) → n ≤ t → slice_get now t ≡ slice_get first t
  pub erred : (t : ℕ) → HasErred (slice_get now t) → slice_get first t ≡ slice_get now t
  pub fits : (t : ℕ) (s : ServiceStatus) → fits_at s (slice_get first t) ≡ true → fits_at s (slice_get now t) ≡ true

pub makes_none : {Fut S E : Type 0} (P : ℕ → Slot Fut S E → Type 0) (first : List (Slot Fut S E)) → ((t : ℕ) → IfSome (slice_get first t) (P t)) → MakesUpTo P first first 0
makes_none P first slots = record {
  slots = slots;
  as_many = refl;
  waits = λ t below inside. absurd (omega arith);
  rest = λ t above. refl;
  erred = λ t has. refl;
  fits = λ t s fit. fit;
}

-- ---- one slot more is another one now
pub erred_set : {Fut S E : Type 0} (first now : List (Slot Fut S E)) (n : ℕ) (old new : Slot Fut S E) → ((t : ℕ) → n ≤ t → slice_get now t ≡ slice_get first t) → ((t : ℕ) → HasErred (slice_get now t) → slice_get first t ≡ slice_get now t)
    → n < length now → old ≡ get_or now n old → (HasErred (Some new) → old ≡ new) → (t : ℕ) → HasErred (slice_get (set now n new) t) → slice_get first t ≡ slice_get (set now n new) t
erred_set first now n old new rest erred inside was same t has = elim (cases_eq t n) [
  | inl here ↦
      let now_new : slice_get (set now n new) t ≡ Some new = subst (λ k. slice_get (set now n new) k ≡ Some new) (sym here) (slice_get-set_same now n new inside) in
      let as_old : slice_get now t ≡ Some old = subst (λ k. slice_get now k ≡ Some old) (sym here) (slice_get_read now (length now) n old refl inside was) in
      sym (rest t (omega (arith, here))) ∙ as_old ∙ ap Some (same (subst (λ o. HasErred o) now_new has)) ∙ sym now_new
  | inr other ↦ erred t (subst (λ o. HasErred o) (slice_get-set_other now n t new other) has) ∙ sym (slice_get-set_other now n t new other)
]

pub fits_set : {Fut S E : Type 0} (first now : List (Slot Fut S E)) (n : ℕ) (old new : Slot Fut S E) → ((t : ℕ) (s : ServiceStatus) → fits_at s (slice_get first t) ≡ true → fits_at s (slice_get now t) ≡ true)
    → n < length now → old ≡ get_or now n old → ((s : ServiceStatus) → fits s old ≡ true → fits s new ≡ true) → (t : ℕ) (s : ServiceStatus) → fits_at s (slice_get first t) ≡ true → fits_at s (slice_get (set now n new) t) ≡ true
fits_set first now n old new so_far inside was fit t s was_fit = elim (cases_eq t n) [
  | inl here ↦ rw (here, slice_get-set_same now n new inside) (fit s
      (subst (λ o. fits_at s o ≡ true) (slice_get_read now (length now) n old refl inside was) (subst (λ k. fits_at s (slice_get now k) ≡ true) here (so_far t s was_fit))))
  | inr other ↦ rw (slice_get-set_other now n t new other) (so_far t s was_fit)
]

-- what was not made before was not all made
pub unmade_there : {Fut S E : Type 0} (first now : List (Slot Fut S E)) (n : ℕ) (old : Slot Fut S E) → slice_get now n ≡ slice_get first n → n < length now → length now ≡ length first → old ≡ get_or now n old → ¬ IsMade (Some old) → ¬ AllMade first
unmade_there first now n old rest inside many was unmade all = unmade (subst (λ o. IsMade o) (sym rest ∙ slice_get_read now (length now) n old refl inside was) (all n (omega (arith, inside, many))))

pub makes_one : {Fut S E : Type 0} (P : ℕ → Slot Fut S E → Type 0) (first now : List (Slot Fut S E)) (n : ℕ) (old new : Slot Fut S E) → MakesUpTo P first now n → n < length now → old ≡ get_or now n old
    → P n new → MadeOrWaits old new → ((s : ServiceStatus) → fits s old ≡ true → fits s new ≡ true) → (HasErred (Some new) → old ≡ new) → MakesUpTo P first (set now n new) (n + 1)
makes_one P first now n old new so_far inside was is waits fit same = record {
  slots = λ t. elim (cases_eq t n) [
    | inl here ↦ rw (here, slice_get-set_same now n new inside) is
    | inr other ↦ rw (slice_get-set_other now n t new other) (so_far.slots t)
  ];
  as_many = length-set now n new ∙ so_far.as_many;
  waits = λ t below within. elim (cases_eq t n) [
    | inl here ↦ rw (here, slice_get-set_same now n new inside, sym (so_far.rest n (omega arith)), slice_get_read now (length now) n old refl inside was) waits
    | inr other ↦ rw (slice_get-set_other now n t new other) (so_far.waits t (omega arith) (let l = length-set now n new in omega arith))
  ];
  rest = λ t above. let other : t ≢ n = omega arith in slice_get-set_other now n t new other ∙ so_far.rest t (omega arith);
  erred = erred_set first now n old new so_far.rest so_far.erred inside was same;
  fits = fits_set first now n old new so_far.fits inside was fit;
}

-- what is not being made for the first time was made, and stays so
pub stays_as_made : {Fut S E : Type 0} (slot : Slot Fut S E) → ((future : Watched Fut) → slot ≡ Making future → ⊥) → MadeOrWaits slot slot
stays_as_made (Making future) other = absurd (other future refl)
stays_as_made (Made service) other = tt
stays_as_made (Failed error) other = tt
stays_as_made (Remaking future error) other = tt
stays_as_made Gone other = tt

-- the services up to a place stand
pub made_one : {Fut S E : Type 0} (slots : List (Slot Fut S E)) (n : ℕ) (slot : Slot Fut S E) → n < length slots → slot ≡ get_or slots n slot → IsMade (Some slot)
    → ((t : ℕ) → t < n → t < length slots → IsMade (slice_get slots t)) → (t : ℕ) → t < n + 1 → t < length slots → IsMade (slice_get slots t)
made_one slots n slot inside was is so_far t below within = elim (cases_eq t n) [
  | inl here ↦ rw (here, slice_get_read slots (length slots) n slot refl inside was) is
  | inr other ↦ so_far t (omega arith) within
]
