-- A service that erred is made anew.
use Rattle.std.proofs.Common.{◌≡◌, ◌≢◌, ◌<◌, ◌⊎◌, ℕ, List, length, Option, Some, None, IfSome, slice_get, get_or, set, true, false, Result, Ok, Err, refl, sym, ap, ◌∙◌, arith, subst, inl, inr}
use Rattle.std.proofs.Math.ListN.{length-set}
use Rattle.std.proofs.lemmas.Option.{slice_get_read}
use Rattle.futures.specs.declared.future.Future.{Ghosts as FutureOf}
use Rattle.futures.specs.declared.task.Poll.TheVariants.{Pending as PollPending, Ready as PollReady}
use Rattle.service_core.specs.Counts.{Rose, risen}
use Rattle.service_core.specs.Making.{Makes}
use Rattle.service_core.specs.Meaning.{Readiness, Within}
use Rattle.service_core.specs.Shown.{wait_count, watched_future}
use Rattle.service_core.specs.declared.ended.Ended.{Ended}
use Rattle.service_core.specs.declared.service.Service.{Ghosts as ServiceOf}
use Rattle.service_core.specs.declared.service_factory.ServiceFactory.{Ghosts as FactoryOf}
use Rattle.service_core.specs.declared.watched.Watched.{Watched}
use Rattle.worker_core.specs.Statuses.{is_asked, is_restarting}
use Rattle.worker_core.specs.WorkerCore.{Worker, status_of}
use Rattle.worker_core.specs.WorkerRuns.{AllAllowed, after_calls}
use Rattle.worker_core.specs.declared.service_status.ServiceStatus.TheVariants.{Available, Failed as StatusFailed, Restarting, Unavailable}
use Rattle.server_run.specs.Creating.{Creates}
use Rattle.server_worker.specs.Asking.{HasMoved, calls_of}
use Rattle.server_worker.specs.Checking.{Checks, IsDown, IsRemaking, IsStanding}
use Rattle.server_worker.specs.Standing.{HasErred, IsMade, IsSlot, fits, fits_at, making_waits}
use Rattle.server_worker.specs.declared.slot.Slot.{Slot}
use Rattle.server_worker.specs.declared.slot.Slot.TheVariants.{Failed, Gone, Made, Making, Remaking}
use Rattle.server_worker.proofs.AskSteps.{checks_waits}
use Rattle.server_worker.proofs.BeginSteps.{makes_for}
use Rattle.server_worker.proofs.Lists.{slice_get-set_other, slice_get-set_same}
use Rattle.server_worker.proofs.Statuses.{failed_waits, fits_still, remaking_restarts}

-- what is none that is being made anew is not
pub not_remaking : {Fut S E : Type 0} (slot : Slot Fut S E) → ((future : Watched Fut) (error : E) → slot ≡ Remaking future error → ⊥) → IsRemaking (Some slot) → ⊥
not_remaking (Making future) other is = is
not_remaking (Made service) other is = is
not_remaking (Failed error) other is = is
not_remaking (Remaking future error) other is = other future error refl
not_remaking Gone other is = is

-- what is none that failed did not
pub not_down : {Fut S E : Type 0} (slot : Slot Fut S E) → ((error : E) → slot ≡ Failed error → ⊥) → IsDown (Some slot) → ⊥
not_down (Making future) other is = is
not_down (Made service) other is = is
not_down (Failed error) other is = other error refl
not_down (Remaking future error) other is = is
not_down Gone other is = is

-- what stands was made
pub standing_made : {Fut S E : Type 0} (o : Option (Slot Fut S E)) → IsStanding o → IsMade o
standing_made None stands = absurd stands
standing_made (Some (Making future)) stands = absurd stands
standing_made (Some (Made service)) stands = tt
standing_made (Some (Failed error)) stands = absurd stands
standing_made (Some (Remaking future error)) stands = absurd stands
standing_made (Some Gone) stands = absurd stands

-- ---- an element was set, once or twice
pub read_again : {X : Type 0} (xs : List X) (n : ℕ) (x y : X) → n < length xs → y ≡ get_or (set xs n x) n y → y ≡ x
read_again xs n x y inside is =
    let many = length-set xs n x in
    let here : Some y ≡ Some x = sym (slice_get_read (set xs n x) (length (set xs n x)) n y refl (omega (arith, inside, many)) is) ∙ slice_get-set_same xs n x inside in
    cc

pub others_twice : {X : Type 0} (xs : List X) (n : ℕ) (x y : X) (t : ℕ) → t ≢ n → slice_get (set (set xs n x) n y) t ≡ slice_get xs t
others_twice xs n x y t other = slice_get-set_other (set xs n x) n t y other ∙ slice_get-set_other xs n t x other

pub as_many_twice : {X : Type 0} (xs : List X) (n : ℕ) (x y : X) → length (set (set xs n x) n y) ≡ length xs
as_many_twice xs n x y = length-set (set xs n x) n y ∙ length-set xs n x

pub inside_set : {X : Type 0} (xs : List X) (n : ℕ) (x : X) → n < length xs → n < length (set xs n x)
inside_set xs n x inside = let many = length-set xs n x in omega (arith, inside, many)

pub here_twice : {X : Type 0} (xs : List X) (n : ℕ) (x y : X) → n < length xs → slice_get (set (set xs n x) n y) n ≡ Some y
here_twice xs n x y inside = slice_get-set_same (set xs n x) n y (inside_set xs n x inside)

-- ---- a slot was read
module _ {Fut S E : Type 0} (slots : List (Slot Fut S E)) (token : ℕ) (slot : Slot Fut S E) (inside : token < length slots) (read : slot ≡ get_or slots token slot) where
  pub read_there : slice_get slots token ≡ Some slot
  read_there = slice_get_read slots (length slots) token slot refl inside read

  pub read_remaking : IsRemaking (slice_get slots token) → IsRemaking (Some slot)
  read_remaking is = subst (λ o. IsRemaking o) read_there is

  pub read_down : IsDown (slice_get slots token) → IsDown (Some slot)
  read_down is = subst (λ o. IsDown o) read_there is

  pub standing_there : (service : S) → slot ≡ Made service → IsStanding (slice_get slots token)
  standing_there service is = subst (λ o. IsStanding o) (sym (read_there ∙ ap (λ s. Some s) is)) tt

  pub down_there : (error : E) → slot ≡ Failed error → IsDown (slice_get slots token)
  down_there error is = subst (λ o. IsDown o) (sym (read_there ∙ ap (λ s. Some s) is)) tt

  pub remaking_there : (future : Watched Fut) (error : E) → slot ≡ Remaking future error → IsRemaking (slice_get slots token)
  remaking_there future error is = subst (λ o. IsRemaking o) (sym (read_there ∙ ap (λ s. Some s) is)) tt

-- ---- what is being made anew was polled
module _ {Fut S E : Type 0} (slots : List (Slot Fut S E)) (w : Worker) (token : ℕ) (future : Watched Fut) (error : E) (inside : token < length slots) (there : slice_get slots token ≡ Some (Remaking future error))
    (fit : (t : ℕ) → fits_at (status_of w t) (slice_get slots t) ≡ true) where
  restarting_fits : is_restarting (status_of w token) ≡ true
  restarting_fits = subst (λ o. fits_at (status_of w token) o ≡ true) there (fit token)

  restarts : status_of w token ≡ Restarting
  restarts = remaking_restarts (status_of w token) (slice_get slots token) (subst (λ o. IsRemaking o) (sym there) tt) (fit token)

  pub fits_polled : (later : Watched Fut) → (t : ℕ) → fits_at (status_of w t) (slice_get (set slots token (Remaking later error)) t) ≡ true
  fits_polled later = fits_still slots w token (Remaking later error) fit inside restarting_fits

  pub fits_given_up : (later : Watched Fut) (last : Slot Fut S E) → last ≡ Gone → (t : ℕ) → fits_at (status_of w t) (slice_get (set (set slots token (Remaking later error)) token last) t) ≡ true
  fits_given_up later last is = fits_still (set slots token (Remaking later error)) w token last (fits_polled later) (inside_set slots token (Remaking later error) inside)
      (subst (λ s. fits (status_of w token) s ≡ true) (sym is) restarting_fits)

  pub checks_polled : (may_ready : ℕ → Readiness E → Type 0) (later : Watched Fut) → wait_count later ≡ risen (wait_count future) → Checks may_ready slots w (set slots token (Remaking later error)) w token
  checks_polled may_ready later rose = checks_waits may_ready slots (set slots token (Remaking later error)) w w token refl (ap is_asked restarts)
      (inr (subst (λ o. HasErred o) (sym there) tt, rises))
      (λ t other. slice_get-set_other slots token t (Remaking later error) other) (length-set slots token (Remaking later error))
    where
      rises : Rose (making_waits (slice_get slots token)) (making_waits (slice_get (set slots token (Remaking later error)) token))
      rises = let old = ap making_waits there in let new = ap making_waits (slice_get-set_same slots token (Remaking later error) inside) in omega (arith, rose, old, new)

module _ {S L E I Fut MFut : Type 0} (mg : FutureOf MFut (Result S I)) (sg : ServiceOf S L (Ended L) E Fut) (may_stand : Fut → L → Type 0)
    (may_serve : L → Ended L → Type 0) (may_leave : L → L → Type 0) (may_ready : Readiness E → Type 0) (may_init : I → Type 0) (may_make : Type 0)
    (slots : List (Slot MFut S E)) (token : ℕ) (future : Watched MFut) (error : E) (there : slice_get slots token ≡ Some (Remaking future error))
    (holds : IfSome (slice_get slots token) (IsSlot mg sg may_stand may_serve may_leave may_ready may_init may_make)) where
  remakes : IsSlot mg sg may_stand may_serve may_leave may_ready may_init may_make (Remaking future error)
  remakes = subst (λ o. IfSome o (IsSlot mg sg may_stand may_serve may_leave may_ready may_init may_make)) there holds

  pub may_be_polled : mg.can_poll (watched_future future)
  may_be_polled = remakes.1.0

  pub slot_polled : token < length slots → (later : Watched MFut) → mg.can_poll (watched_future later) → ((x : Result S I) → mg.gives (watched_future later) x → mg.gives (watched_future future) x)
      → IfSome (slice_get (set slots token (Remaking later error)) token) (IsSlot mg sg may_stand may_serve may_leave may_ready may_init may_make)
  slot_polled inside later again same = subst (λ o. IfSome o (IsSlot mg sg may_stand may_serve may_leave may_ready may_init may_make)) (sym (slice_get-set_same slots token (Remaking later error) inside))
      (remakes.0, (again, λ x given. remakes.1.1 x (same x given)))

  pub made_again : (service : S) → mg.gives (watched_future future) (Ok service) → IsSlot mg sg may_stand may_serve may_leave may_ready may_init may_make (Made service)
  made_again service given = remakes.1.1 (Ok service) given

  pub refused_again : (why : I) → mg.gives (watched_future future) (Err why) → may_ready (PollReady (Err error)) × may_init why
  refused_again why given = (remakes.0.1, remakes.1.1 (Err why) given)

-- ---- the making of one that failed is begun
module _ {Fut S E : Type 0} (slots : List (Slot Fut S E)) (w : Worker) (token : ℕ) (error : E) (inside : token < length slots) (there : slice_get slots token ≡ Some (Failed error)) where
  pub fits_begun : ((t : ℕ) → fits_at (status_of w t) (slice_get slots t) ≡ true) → status_of w token ≡ Restarting → (none : Slot Fut S E) → none ≡ Gone → (making : Watched Fut)
      → (t : ℕ) → fits_at (status_of w t) (slice_get (set (set slots token none) token (Remaking making error)) t) ≡ true
  fits_begun fit next none is making = fits_still (set slots token none) w token (Remaking making error)
      (fits_still slots w token none fit inside (subst (λ s. fits (status_of w token) s ≡ true) (sym is) (ap is_restarting next)))
      (inside_set slots token none inside) (ap is_restarting next)

  pub waits_begun : (none : Slot Fut S E) (making : Watched Fut) → wait_count making ≡ 0 → making_waits (slice_get (set (set slots token none) token (Remaking making error)) token) ≡ making_waits (slice_get slots token)
  waits_begun none making fresh = ap making_waits (here_twice slots token none (Remaking making error) inside) ∙ fresh ∙ sym (ap making_waits there)

-- where another one is made anew first, nothing is done about it
pub checks_later : {E S MFut : Type 0} (may_ready : ℕ → Readiness E → Type 0) (slots : List (Slot MFut S E)) (w : Worker) (token : ℕ) → IsDown (slice_get slots token)
    → fits_at (status_of w token) (slice_get slots token) ≡ true → is_restarting (status_of w token) ≡ false → Checks may_ready slots w slots w token
checks_later may_ready slots w token down fit other =
    let failed = failed_waits (status_of w token) (slice_get slots token) down fit other in
    checks_waits may_ready slots slots w w token refl (ap is_asked failed) (inl failed) (λ t apart. refl) refl

pub factory_there : {X : Type 0} (P : X → Type 0) (xs : List X) (token : ℕ) (x : X) → token < length xs → x ≡ get_or xs token x → IfSome (slice_get xs token) P → P x
factory_there P xs token x inside read holds = subst (λ o. IfSome o P) (slice_get_read xs (length xs) token x refl inside read) holds

module _ {F L E S I M Fut : Type 0} (fg : FactoryOf F L (Ended L) E (Unit {0}) S I M Fut) (mg : FutureOf M (Result S I)) (sg : ServiceOf S L (Ended L) E Fut)
    (may_stand : Fut → L → Type 0) (may_serve : L → Ended L → Type 0) (may_leave : L → L → Type 0) (may_ready : Readiness E → Type 0) (may_init : I → Type 0) (may_make : Type 0) where
  -- the slot whose making was begun is one of its token
  pub slot_begun : (factory : F) → Creates fg may_stand may_serve may_leave may_ready may_init may_make factory
      → (slots : List (Slot M S E)) (token : ℕ) (error : E) → token < length slots → slice_get slots token ≡ Some (Failed error)
      → IfSome (slice_get slots token) (IsSlot mg sg may_stand may_serve may_leave may_ready may_init may_make)
      → (none : Slot M S E) (begun : M) (making : Watched M) → watched_future making ≡ begun → mg.can_poll begun
      → Within (mg.gives begun) (Makes sg (fg.may factory tt) (fg.may_ready factory tt) (fg.may_begin factory tt) (fg.may_make factory tt) (fg.may_init factory tt))
      → IfSome (slice_get (set (set slots token none) token (Remaking making error)) token) (IsSlot mg sg may_stand may_serve may_leave may_ready may_init may_make)
  slot_begun factory creates slots token error inside there holds none begun making is pollable made =
      subst (λ o. IfSome o (IsSlot mg sg may_stand may_serve may_leave may_ready may_init may_make)) (sym (here_twice slots token none (Remaking making error) inside)) (
        subst (λ o. IfSome o (IsSlot mg sg may_stand may_serve may_leave may_ready may_init may_make)) there holds,
        (
          subst (λ f. mg.can_poll f) (sym is) pollable,
          λ x given. makes_for fg sg may_stand may_serve may_leave may_ready may_init may_make factory creates x (made x (subst (λ f. mg.gives f x) is given)),
        ),
      )

-- it was begun, and then polled
pub checks_begun : {E S MFut : Type 0} (may_ready : ℕ → Readiness E → Type 0) (slots mid after : List (Slot MFut S E)) (a m b : Worker) (token : ℕ) → IsDown (slice_get slots token) → m ≡ a
    → ((t : ℕ) → t ≢ token → slice_get mid t ≡ slice_get slots t) → length mid ≡ length slots → making_waits (slice_get mid token) ≡ making_waits (slice_get slots token)
    → Checks may_ready mid m after b token → Checks may_ready slots a after b token
checks_begun {E = E} {S = S} {MFut = MFut} may_ready slots mid after a m b token down same others many waits it = record {
  check = it.check;
  may = it.may;
  asks = λ is. it.asks (ap (λ v. is_asked (status_of v token)) same ∙ is);
  allowed = subst (λ v. AllAllowed v (calls_of token it.check)) same it.allowed;
  core = it.core ∙ ap (λ v. after_calls v (calls_of token it.check)) same;
  others = λ t other. it.others t other ∙ others t other;
  as_many = it.as_many ∙ many;
  accounted = by_cause it.accounted;
}
  where
    erred : (o : Option (Slot MFut S E)) → IsDown o → HasErred o
    erred None is = absurd is
    erred (Some (Making f)) is = absurd is
    erred (Some (Made s)) is = absurd is
    erred (Some (Failed e)) is = tt
    erred (Some (Remaking f e)) is = absurd is
    erred (Some Gone) is = absurd is

    by_cause : (status_of b token ≡ Available) ⊎ (((status_of b token ≡ Unavailable) × may_ready token PollPending) ⊎ ((status_of m token ≡ StatusFailed) ⊎ (HasMoved (Some it.check) ⊎ (HasErred (slice_get mid token) × Rose (making_waits (slice_get mid token)) (making_waits (slice_get after token))))))
        → (status_of b token ≡ Available) ⊎ (((status_of b token ≡ Unavailable) × may_ready token PollPending) ⊎ ((status_of a token ≡ StatusFailed) ⊎ (HasMoved (Some it.check) ⊎ (HasErred (slice_get slots token) × Rose (making_waits (slice_get slots token)) (making_waits (slice_get after token))))))
    by_cause (inl available) = inl available
    by_cause (inr (inl pending)) = inr (inl pending)
    by_cause (inr (inr (inl failed))) = inr (inr (inl (sym (ap (λ v. status_of v token) same) ∙ failed)))
    by_cause (inr (inr (inr (inl moved)))) = inr (inr (inr (inl moved)))
    by_cause (inr (inr (inr (inr rose)))) = inr (inr (inr (inr (erred (slice_get slots token) down, subst (λ n. Rose n (making_waits (slice_get after token))) waits rose.1))))
