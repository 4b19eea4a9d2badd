-- Where nothing is out, all that was put on a ring came back.
use Rattle.std.proofs.Common.{◌≡◌, ◌++◌, ◌∷◌, [], zero, suc, ℕ, true, false, List, All, None, Some, slice_index, sum_by, refl, arith, inl, inr}
use Rattle.std.specs.Prelude.{sum}
use Rattle.std.proofs.lemmas.List.Sums.{sum_by-cons}
use Rattle.std.proofs.lemmas.List.Elements.{All-cons, All-head, All-nil, All-tail}
use Rattle.service_core.specs.Link.{Identity}
use Rattle.service_core.specs.Meaning.{Readiness}
use Rattle.service_core.specs.declared.ended.Ended.{Ended}
use Rattle.server_run.specs.Creating.{HasMeaningOf}
use Rattle.server_run.specs.Delivery.{ComesBack}
use Rattle.server_run.specs.declared.outcome.Outcome.{Outcome}
use Rattle.server_run.specs.declared.outcome.Outcome.TheVariants as outcome
use Rattle.server_jobs.specs.Cards.{Card, of_note, of_parcel, of_waiting}
use Rattle.server_jobs.specs.declared.note.Note.{Note}
use Rattle.server_jobs.specs.declared.note.Note.TheVariants.{Ready, Back, Faulted}
use Rattle.server_jobs.specs.declared.parcel.Parcel.{Parcel}
use Rattle.server_jobs.specs.declared.parcel.Parcel.TheVariants.{Conn, Stop}
use Rattle.server_jobs.specs.declared.waiting.Waiting.{Waiting}
use Rattle.server_worker.specs.Sound.{IsTold}

-- where one sum is 0, so is another that is 0 at each element where the one is
pub none_by : {X : Type 0} (f g : X → ℕ) → ((x : X) → f x ≡ 0 → g x ≡ 0) → (xs : List X) → sum_by f xs ≡ 0 → sum_by g xs ≡ 0
none_by f g each [] none = refl
none_by f g each (x ∷ xs) none =
    let a = sum_by-cons f x xs in
    let here : f x ≡ 0 = omega (arith, a, none) in
    let rest : sum_by f xs ≡ 0 = omega (arith, a, none) in
    omega (arith, sum_by-cons g x xs, each x here, none_by f g each xs rest)

-- where a sum is 0, each number is
pub none_at : (xs : List ℕ) (w : ℕ) → sum xs ≡ 0 → slice_index xs w ≡ 0
none_at [] w none = refl
none_at (x ∷ xs) zero none = omega (arith, sum_by-cons (λ y. y) x xs, none)
none_at (x ∷ xs) (suc w) none = none_at xs w (omega (arith, sum_by-cons (λ y. y) x xs, none))

-- what holds of each element holds of those in front
pub all_front : {X : Type 0} (P : X → Type 0) (xs ys : List X) → All P (xs ++ ys) → All P xs
all_front P [] ys all = All-nil P
all_front P (x ∷ xs) ys all = All-cons P x xs (All-head P x (xs ++ ys) all) (all_front P xs ys (All-tail P x (xs ++ ys) all))

module _ {L : Type 0} (identity : L → Identity) (h : Card → ℕ) where
  note_none : (n : Note L) → of_note identity (λ c. 1) n ≡ 0 → of_note identity h n ≡ 0
  note_none Ready none = refl
  note_none (Back e) none = absurd (omega (arith, none))
  note_none Faulted none = refl

  pub parcel_none : (p : Parcel L) → of_parcel identity (λ c. 1) p ≡ 0 → of_parcel identity h p ≡ 0
  parcel_none (Conn s t p l) none = absurd (omega (arith, none))
  parcel_none (Stop graceful) none = refl

  waiting_none : (w : Waiting L) → of_waiting identity (λ c. 1) w ≡ 0 → of_waiting identity h w ≡ 0
  waiting_none w none = absurd (omega (arith, none))

module _ {F L E I : Type 0} (may_serve : F → ℕ → L → Ended L → Type 0) (may_leave : F → ℕ → L → L → Type 0) (may_ready : F → ℕ → Readiness E → Type 0)
    (may_init : F → ℕ → I → Type 0) (may_make : F → ℕ → Type 0) where
  module _ (original copy : F) (means : HasMeaningOf may_serve may_leave may_ready may_init may_make original copy) where
    wider : (token : ℕ) (link back : L) (end : Outcome) → ComesBack (may_serve copy token) (may_leave copy token) link back end → ComesBack (may_serve original token) (may_leave original token) link back end
    wider token link back end (inl served) = inl (served.0, served.1, means.serves token link _ served.2)
    wider token link back outcome.Served (inr held) = absurd held
    wider token link back outcome.ReadFault (inr held) = absurd held
    wider token link back outcome.WriteFault (inr held) = absurd held
    wider token link back outcome.Upgraded (inr held) = absurd held
    wider token link back (outcome.Lost None) (inr held) = inr held
    wider token link back (outcome.Lost (Some worker)) (inr (inl held)) = inr (inl held)
    wider token link back (outcome.Lost (Some worker)) (inr (inr held)) = inr (inr (means.leaves token link back held))
    wider token link back (outcome.Stopped false) (inr held) = inr held
    wider token link back (outcome.Stopped true) (inr held) = inr (means.leaves token link back held)
    wider token link back outcome.Memory (inr held) = inr (means.leaves token link back held)

    -- a note that is true of the copy's services is true of its original's
    pub told_wider : (listeners : ℕ) (parcels : List (Parcel L)) (n : Note L) → IsTold (may_serve copy) (may_leave copy) (may_make copy) listeners parcels n → IsTold (may_serve original) (may_leave original) (may_make original) listeners parcels n
    told_wider listeners parcels Ready told = λ token inside. means.makes token (told token inside)
    told_wider listeners parcels (Back e) told = record { link = told.link; came = told.came; comes_back = wider e.token told.link e.link e.outcome told.comes_back; unlost = told.unlost; stop = told.stop; force = told.force }
    told_wider listeners parcels Faulted told = told
