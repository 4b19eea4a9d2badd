-- What the core of a worker knows of its services, and how that changes.
use Rattle.std.proofs.Common.{◌≡◌, ◌≢◌, ◌<◌, ◌⊎◌, ℕ, Bool, true, false, true≢false, List, Option, None, Some, length, get_or, set, slice_get, refl, sym, ap, subst, ◌∙◌, inl, inr}
use Rattle.std.specs.Prelude.{◌||◌, if◌then◌else◌, position}
use Rattle.std.specs.List.{list_any}
use Rattle.std.proofs.lemmas.Bool.{cases_eq}
use Rattle.std.proofs.lemmas.List.{get_or-set_other, get_or-set_same}
use Rattle.std.proofs.lemmas.List.Quantifiers.{position-Some}
use Rattle.worker_core.specs.Statuses.{is_asked, is_failed, is_restarting}
use Rattle.worker_core.specs.WorkerCore.{MayAsk, MayRestart, Worker, after_ready, after_restarted, answer_status, failure_status, restarted_at, status_of}
use Rattle.worker_core.specs.WorkerRuns.{after_calls}
use Rattle.worker_core.specs.declared.ready_answer.ReadyAnswer.{ReadyAnswer}
use Rattle.worker_core.specs.declared.ready_answer.ReadyAnswer.TheVariants as answer
use Rattle.worker_core.specs.declared.service_status.ServiceStatus.{ServiceStatus}
use Rattle.worker_core.specs.declared.service_status.ServiceStatus.TheVariants.{Available, Unavailable, Failed, Restarting, Stopping, Stopped}
use Rattle.server_worker.proofs.Lists.{slice_get-set_other, slice_get-set_same}
use Rattle.server_worker.specs.Asking.{Check, asked, calls_of, passed, remade}
use Rattle.server_worker.specs.Checking.{IsDown, IsRemaking, IsStanding}
use Rattle.server_worker.specs.Standing.{fits, fits_at}
use Rattle.server_worker.specs.declared.slot.Slot.{Slot}
use Rattle.server_worker.specs.declared.slot.Slot.TheVariants as slot

is_the_failed : (s : ServiceStatus) → is_failed s ≡ true → s ≡ Failed
is_the_failed Available e = absurd (true≢false (sym e))
is_the_failed Unavailable e = absurd (true≢false (sym e))
is_the_failed Failed e = refl
is_the_failed Restarting e = absurd (true≢false (sym e))
is_the_failed Stopping e = absurd (true≢false (sym e))
is_the_failed Stopped e = absurd (true≢false (sym e))

is_the_restarting : (s : ServiceStatus) → is_restarting s ≡ true → s ≡ Restarting
is_the_restarting Available e = absurd (true≢false (sym e))
is_the_restarting Unavailable e = absurd (true≢false (sym e))
is_the_restarting Failed e = absurd (true≢false (sym e))
is_the_restarting Restarting e = refl
is_the_restarting Stopping e = absurd (true≢false (sym e))
is_the_restarting Stopped e = absurd (true≢false (sym e))

-- ---- what one call makes of each service
pub answered_other : (w : Worker) (token t : ℕ) (a : ReadyAnswer) → t ≢ token → status_of (after_ready w token a) t ≡ status_of w t
answered_other w token t a other = get_or-set_other w.services token t (answer_status w a) Unavailable other

pub answered_same : (w : Worker) (token : ℕ) (a : ReadyAnswer) → token < length w.services → status_of (after_ready w token a) token ≡ answer_status w a
answered_same w token a inside = get_or-set_same w.services token (answer_status w a) Unavailable inside

-- a service is as it was, or, where it had failed, is the one to be made anew
abbrev pub Passes : ServiceStatus → ServiceStatus → Type 0
Passes before after = (after ≡ before) ⊎ ((before ≡ Failed) × (after ≡ Restarting))

next_own : (services : List ServiceStatus) (token : ℕ) (next : Option ℕ) → token < length services → position is_failed (set services token Unavailable) ≡ next
    → get_or (restarted_at (set services token Unavailable) next) token Unavailable ≡ Unavailable
next_own services token None inside is = get_or-set_same services token Unavailable Unavailable inside
next_own services token (Some j) inside is = elim (cases_eq token j) [
  | inl same ↦ absurd (let found = position-Some is_failed (set services token Unavailable) j Unavailable is in
      true≢false (sym (subst (λ k. is_failed (get_or (set services token Unavailable) k Unavailable) ≡ true) (sym same) found.1) ∙ ap is_failed (get_or-set_same services token Unavailable Unavailable inside)))
  | inr other ↦ get_or-set_other (set services token Unavailable) j token Restarting Unavailable other ∙ get_or-set_same services token Unavailable Unavailable inside
]

next_other : (services : List ServiceStatus) (token t : ℕ) (next : Option ℕ) → t ≢ token → position is_failed (set services token Unavailable) ≡ next
    → Passes (get_or services t Unavailable) (get_or (restarted_at (set services token Unavailable) next) t Unavailable)
next_other services token t None other is = inl (get_or-set_other services token t Unavailable Unavailable other)
next_other services token t (Some j) other is =
    let found = position-Some is_failed (set services token Unavailable) j Unavailable is in
    elim (cases_eq t j) [
      | inl same ↦ inr (
        is_the_failed (get_or services t Unavailable) (ap is_failed (sym (get_or-set_other services token t Unavailable Unavailable other)) ∙ subst (λ k. is_failed (get_or (set services token Unavailable) k Unavailable) ≡ true) (sym same) found.1),
        subst (λ k. get_or (set (set services token Unavailable) j Restarting) k Unavailable ≡ Restarting) (sym same) (get_or-set_same (set services token Unavailable) j Restarting Unavailable found.0),
      )
      | inr apart ↦ inl (get_or-set_other (set services token Unavailable) j t Restarting Unavailable apart ∙ get_or-set_other services token t Unavailable Unavailable other)
    ]

pub restarted_own : (w : Worker) (token : ℕ) → token < length w.services → status_of (after_restarted w token) token ≡ Unavailable
restarted_own w token inside = next_own w.services token (position is_failed (set w.services token Unavailable)) inside refl

pub restarted_other : (w : Worker) (token t : ℕ) → t ≢ token → Passes (status_of w t) (status_of (after_restarted w token) t)
restarted_other w token t other = next_other w.services token t (position is_failed (set w.services token Unavailable)) other refl

pub calls_pass : (w : Worker) (token : ℕ) (check : Check) (t : ℕ) → t ≢ token → Passes (status_of w t) (status_of (after_calls w (calls_of token check)) t)
calls_pass w token passed t other = inl refl
calls_pass w token (asked a) t other = inl (answered_other w token t a other)
calls_pass w token remade t other = restarted_other w token t other

-- a service that failed is to be made anew, now or later
failure_fits : (Fut S : Type 0) {E : Type 0} (w : Worker) (error : E) → fits {Fut = Fut} {S = S} (failure_status w) (slot.Failed error) ≡ true
failure_fits Fut S w error = by_other (list_any is_restarting w.services)
  where
    by_other : (b : Bool) → fits {Fut = Fut} {S = S} (if b then Failed else Restarting) (slot.Failed error) ≡ true
    by_other true = refl
    by_other false = refl

pub answer_asked : (w : Worker) (a : ReadyAnswer) → (a ≡ answer.Err → ⊥) → is_asked (answer_status w a) ≡ true
answer_asked w answer.Ready no_error = refl
answer_asked w answer.NotReady no_error = refl
answer_asked w answer.Err no_error = absurd (no_error refl)

-- where it did not err each service stands as before
pub answer_stays : (w v : Worker) (token : ℕ) (a : ReadyAnswer) → v ≡ after_ready w token a → (a ≡ answer.Err → ⊥) → MayAsk w token → (t : ℕ) → is_asked (status_of v t) ≡ is_asked (status_of w t)
answer_stays w v token a is no_error allowed t = ap (λ v. is_asked (status_of v t)) is ∙ elim (cases_eq t token) [
  | inl same ↦ subst (λ k. is_asked (status_of (after_ready w token a) k) ≡ is_asked (status_of w k)) (sym same)
      (ap is_asked (answered_same w token a allowed.listens) ∙ answer_asked w a no_error ∙ sym allowed.asked)
  | inr other ↦ ap is_asked (answered_other w token t a other)
]

-- so it is where none of them changed
pub asked_same : (w v : Worker) → v ≡ w → (t : ℕ) → is_asked (status_of v t) ≡ is_asked (status_of w t)
asked_same w v same t = ap (λ v. is_asked (status_of v t)) same

module _ {Fut S E : Type 0} where
  fits_next : (o : Option (Slot Fut S E)) → fits_at Failed o ≡ true → fits_at Restarting o ≡ true
  fits_next None fit = refl
  fits_next (Some (slot.Making f)) fit = absurd (true≢false (sym fit))
  fits_next (Some (slot.Made s)) fit = absurd (true≢false (sym fit))
  fits_next (Some (slot.Failed e)) fit = refl
  fits_next (Some (slot.Remaking f e)) fit = absurd (true≢false (sym fit))
  fits_next (Some slot.Gone) fit = absurd (true≢false (sym fit))

  fits_pass : (before after : ServiceStatus) (o : Option (Slot Fut S E)) → Passes before after → fits_at before o ≡ true → fits_at after o ≡ true
  fits_pass before after o (inl same) fit = subst (λ s. fits_at s o ≡ true) (sym same) fit
  fits_pass before after o (inr next) fit = subst (λ s. fits_at s o ≡ true) (sym next.1) (fits_next o (subst (λ s. fits_at s o ≡ true) next.0 fit))

  pub standing_asked : (s : ServiceStatus) (o : Option (Slot Fut S E)) → IsStanding o → fits_at s o ≡ true → is_asked s ≡ true
  standing_asked s None stands fit = absurd stands
  standing_asked s (Some (slot.Making f)) stands fit = absurd stands
  standing_asked s (Some (slot.Made service)) stands fit = fit
  standing_asked s (Some (slot.Failed e)) stands fit = absurd stands
  standing_asked s (Some (slot.Remaking f e)) stands fit = absurd stands
  standing_asked s (Some slot.Gone) stands fit = absurd stands

  standing_fits : (s : ServiceStatus) (o : Option (Slot Fut S E)) → IsStanding o → is_asked s ≡ true → fits_at s o ≡ true
  standing_fits s None stands fit = absurd stands
  standing_fits s (Some (slot.Making f)) stands fit = absurd stands
  standing_fits s (Some (slot.Made service)) stands fit = fit
  standing_fits s (Some (slot.Failed e)) stands fit = absurd stands
  standing_fits s (Some (slot.Remaking f e)) stands fit = absurd stands
  standing_fits s (Some slot.Gone) stands fit = absurd stands

  pub remaking_restarts : (s : ServiceStatus) (o : Option (Slot Fut S E)) → IsRemaking o → fits_at s o ≡ true → s ≡ Restarting
  remaking_restarts s None remaking fit = absurd remaking
  remaking_restarts s (Some (slot.Making f)) remaking fit = absurd remaking
  remaking_restarts s (Some (slot.Made service)) remaking fit = absurd remaking
  remaking_restarts s (Some (slot.Failed e)) remaking fit = absurd remaking
  remaking_restarts s (Some (slot.Remaking f e)) remaking fit = is_the_restarting s fit
  remaking_restarts s (Some slot.Gone) remaking fit = absurd remaking

  -- a service that failed, and is not the one to be made anew, waits
  pub failed_waits : (s : ServiceStatus) (o : Option (Slot Fut S E)) → IsDown o → fits_at s o ≡ true → is_restarting s ≡ false → s ≡ Failed
  failed_waits s None down fit other = absurd down
  failed_waits s (Some (slot.Making f)) down fit other = absurd down
  failed_waits s (Some (slot.Made service)) down fit other = absurd down
  failed_waits s (Some (slot.Failed e)) down fit other = by_status s fit other
    where
      by_status : (s : ServiceStatus) → (is_failed s || is_restarting s) ≡ true → is_restarting s ≡ false → s ≡ Failed
      by_status Available fit other = absurd (true≢false (sym fit))
      by_status Unavailable fit other = absurd (true≢false (sym fit))
      by_status Failed fit other = refl
      by_status Restarting fit other = absurd (true≢false other)
      by_status Stopping fit other = absurd (true≢false (sym fit))
      by_status Stopped fit other = absurd (true≢false (sym fit))
  failed_waits s (Some (slot.Remaking f e)) down fit other = absurd down
  failed_waits s (Some slot.Gone) down fit other = absurd down

  -- ---- each service fits behind a call for one of them
  pub fits_answered : (slots : List (Slot Fut S E)) (w : Worker) (token : ℕ) (a : ReadyAnswer) → ((t : ℕ) → fits_at (status_of w t) (slice_get slots t) ≡ true)
      → token < length w.services → IsStanding (slice_get slots token) → (a ≡ answer.Err → ⊥) → (t : ℕ) → fits_at (status_of (after_ready w token a) t) (slice_get slots t) ≡ true
  fits_answered slots w token a fit inside stands no_error t = elim (cases_eq t token) [
    | inl here ↦ subst (λ k. fits_at (status_of (after_ready w token a) k) (slice_get slots k) ≡ true) (sym here)
        (standing_fits _ (slice_get slots token) stands (ap is_asked (answered_same w token a inside) ∙ answer_asked w a no_error))
    | inr other ↦ fits_pass _ _ (slice_get slots t) (inl (answered_other w token t a other)) (fit t)
  ]

  fits_set : (slots : List (Slot Fut S E)) (w v : Worker) (token : ℕ) (new : Slot Fut S E) → ((t : ℕ) → fits_at (status_of w t) (slice_get slots t) ≡ true) → token < length slots
      → ((t : ℕ) → t ≢ token → Passes (status_of w t) (status_of v t)) → fits (status_of v token) new ≡ true → (t : ℕ) → fits_at (status_of v t) (slice_get (set slots token new) t) ≡ true
  fits_set slots w v token new fit inside pass here t = elim (cases_eq t token) [
    | inl same ↦ subst (λ k. fits_at (status_of v k) (slice_get (set slots token new) k) ≡ true) (sym same)
        (subst (λ o. fits_at (status_of v token) o ≡ true) (sym (slice_get-set_same slots token new inside)) here)
    | inr other ↦ subst (λ o. fits_at (status_of v t) o ≡ true) (sym (slice_get-set_other slots token t new other)) (fits_pass _ _ (slice_get slots t) (pass t other) (fit t))
  ]

  pub fits_failed : (slots : List (Slot Fut S E)) (w : Worker) (token : ℕ) (error : E) → ((t : ℕ) → fits_at (status_of w t) (slice_get slots t) ≡ true) → token < length slots → token < length w.services
      → (t : ℕ) → fits_at (status_of (after_ready w token answer.Err) t) (slice_get (set slots token (slot.Failed error)) t) ≡ true
  fits_failed slots w token error fit inside listens = fits_set slots w (after_ready w token answer.Err) token (slot.Failed error) fit inside (λ t other. inl (answered_other w token t answer.Err other))
      (subst (λ s. fits {Fut = Fut} {S = S} s (slot.Failed error) ≡ true) (sym (answered_same w token answer.Err listens)) (failure_fits Fut S w error))

  pub fits_remade : (slots : List (Slot Fut S E)) (w : Worker) (token : ℕ) (service : S) → ((t : ℕ) → fits_at (status_of w t) (slice_get slots t) ≡ true) → token < length slots → token < length w.services
      → (t : ℕ) → fits_at (status_of (after_restarted w token) t) (slice_get (set slots token (slot.Made service)) t) ≡ true
  fits_remade slots w token service fit inside listens = fits_set slots w (after_restarted w token) token (slot.Made service) fit inside (λ t other. restarted_other w token t other)
      (ap is_asked (restarted_own w token listens))

  -- another slot that fits as well took the place of one
  pub fits_still : (slots : List (Slot Fut S E)) (w : Worker) (token : ℕ) (new : Slot Fut S E) → ((t : ℕ) → fits_at (status_of w t) (slice_get slots t) ≡ true) → token < length slots
      → fits (status_of w token) new ≡ true → (t : ℕ) → fits_at (status_of w t) (slice_get (set slots token new) t) ≡ true
  fits_still slots w token new fit inside here = fits_set slots w w token new fit inside (λ t other. inl refl) here

pub listens : (token n m : ℕ) → token < n → n ≡ m → token < m
listens token n m inside many = subst (λ k. token < k) many inside

pub may_ask : {Fut S E : Type 0} (slots : List (Slot Fut S E)) (w : Worker) (token : ℕ) → ((t : ℕ) → fits_at (status_of w t) (slice_get slots t) ≡ true) → token < length w.services → IsStanding (slice_get slots token)
    → w.draining ≡ false → w.left ≡ false → MayAsk w token
may_ask slots w token fit listens stands not_draining not_left = record {
  listens = listens;
  asked = standing_asked _ (slice_get slots token) stands (fit token);
  not_draining = not_draining;
  not_left = not_left;
}

pub is_next : (s : ServiceStatus) → is_restarting s ≡ true → s ≡ Restarting
is_next = is_the_restarting

pub may_restart : {Fut S E : Type 0} (slots : List (Slot Fut S E)) (w : Worker) (token : ℕ) → ((t : ℕ) → fits_at (status_of w t) (slice_get slots t) ≡ true) → token < length w.services → IsRemaking (slice_get slots token) → MayRestart w token
may_restart slots w token fit listens remaking = record { listens = listens; restarts = remaking_restarts _ (slice_get slots token) remaking (fit token) }
