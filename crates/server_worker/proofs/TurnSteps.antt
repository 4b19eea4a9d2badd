-- What a turn comes to, step by step.
use Rattle.std.proofs.Common.{◌≡◌, ◌≢◌, ◌<◌, ◌⊎◌, ◌++◌, ℕ, Bool, true, false, true≢false, List, length, Option, None, Some, Result, Err, slice_get, refl, sym, ap, ◌∙◌, subst, inl, inr}
use Rattle.std.specs.Prelude.{cond}
use Rattle.futures.specs.Task.{Keeps}
use Rattle.futures.specs.declared.future.Future.{Ghosts as FutureOf}
use Rattle.futures.specs.declared.task.Poll.TheVariants.{Ready as PollReady}
use Rattle.futures.specs.declared.task.context.Context.{Context}
use Rattle.rtrb.specs.Ring.{sent}
use Rattle.service_core.specs.Counts.{Rose}
use Rattle.service_core.specs.Meaning.{Readiness}
use Rattle.service_core.specs.declared.ended.Ended.{Ended}
use Rattle.service_core.specs.declared.service.Service.{Ghosts as ServiceOf}
use Rattle.service_core.specs.declared.service_factory.ServiceFactory.{Ghosts as FactoryOf}
use Rattle.service_core.specs.declared.watched.Watched.{Watched}
use Rattle.worker_core.specs.Statuses.{is_asked}
use Rattle.worker_core.specs.WorkerCore.{Worker, status_of}
use Rattle.server_worker.specs.Asking.{ChecksUpTo}
use Rattle.server_worker.specs.Changes.{HasChanged, HasYielded}
use Rattle.server_worker.specs.Sound.{IsSound, Tells}
use Rattle.server_worker.specs.Standing.{AreFactories, AreSlots, AtSlot, HasErred, IsMade, MadeOrWaits, StillMaking, making_waits}
use Rattle.server_worker.specs.Turn.{ComesTo, IsFaulted, IsGoing, Works}
use Rattle.server_worker.specs.declared.connections.Connections.{Connections}
use Rattle.server_worker.specs.declared.services.Services.{Services}
use Rattle.server_worker.specs.declared.slot.Slot.{Slot}
use Rattle.server_worker.specs.declared.slot.Slot.TheVariants.{Failed, Gone, Made, Making, Remaking}
use Rattle.server_worker.specs.declared.turned.Turned.{Turned}
use Rattle.server_worker.specs.declared.turned.Turned.TheVariants.{Faulted, Going, Left, Short, Unstarted}
use Rattle.server_worker.proofs.AskSteps.{checks_from_made}

-- ---- what a turn that was not stopped comes to
module _ {E I : Type 0} (forced : Bool) (total : ℕ) (all : Bool) (turned : Turned E I) (comes : ComesTo false forced total all turned) where
  pub comes_going : turned ≡ Going → all ≡ true
  comes_going is = let it : ComesTo {E = E} {I = I} false forced total all Going = subst (λ r. ComesTo false forced total all r) is comes in it.0

  pub comes_short : turned ≡ Short → all ≡ false
  comes_short is = let it : ComesTo {E = E} {I = I} false forced total all Short = subst (λ r. ComesTo false forced total all r) is comes in it.0

  pub not_left : (none_held : Bool) → turned ≡ Left none_held → ⊥
  not_left none_held is = let it : ComesTo {E = E} {I = I} false forced total all (Left none_held) = subst (λ r. ComesTo false forced total all r) is comes in true≢false (sym it.0)

  pub not_unstarted : (token : ℕ) (error : I) → turned ≡ Unstarted token error → ⊥
  not_unstarted token error is = subst (λ r. ComesTo false forced total all r) is comes

  pub not_faulted : (token : ℕ) (readiness : E) (error : I) → turned ≡ Faulted token readiness error → ⊥
  not_faulted token readiness error is = subst (λ r. ComesTo false forced total all r) is comes

pub comes_unfaulted : {E I : Type 0} (stopped forced : Bool) (total : ℕ) (all : Bool) (turned : Turned E I) → ComesTo stopped forced total all turned → IsFaulted turned → ⊥
comes_unfaulted stopped forced total all Going comes fault = fault
comes_unfaulted stopped forced total all Short comes fault = fault
comes_unfaulted stopped forced total all (Left none_held) comes fault = fault
comes_unfaulted stopped forced total all (Unstarted token error) comes fault = fault
comes_unfaulted stopped forced total all (Faulted token readiness error) comes fault = comes

pub comes_started : {E I : Type 0} (stopped forced : Bool) (total : ℕ) (all : Bool) (turned : Turned E I) → ComesTo stopped forced total all turned → (token : ℕ) (error : I) → turned ≡ Unstarted token error → ⊥
comes_started stopped forced total all turned comes token error is = subst (λ r. ComesTo stopped forced total all r) is comes

pub comes_whole : {E I : Type 0} (stopped forced : Bool) (total : ℕ) (all : Bool) (turned : Turned E I) → ComesTo stopped forced total all turned → (token : ℕ) (readiness : E) (error : I) → turned ≡ Faulted token readiness error → ⊥
comes_whole stopped forced total all turned comes token readiness error is = subst (λ r. ComesTo stopped forced total all r) is comes

pub comes_stays : {E I : Type 0} (forced : Bool) (total : ℕ) (all : Bool) (turned : Turned E I) → ComesTo true forced total all turned → IsGoing turned → (total ≢ 0) × (forced ≡ false)
comes_stays forced total all Going comes going = comes.1 refl
comes_stays forced total all Short comes going = comes.1 refl
comes_stays forced total all (Left none_held) comes going = absurd going
comes_stays forced total all (Unstarted token error) comes going = absurd going
comes_stays forced total all (Faulted token readiness error) comes going = absurd going

-- it did not change
pub unchanged : (a b : Worker) (token : ℕ) → b ≡ a → HasChanged a b token → ⊥
unchanged a b token same changed = changed (ap (λ v. is_asked (status_of v token)) same)

-- it has yielded, and goes on so
pub yielded_on : (old new : Context) → Keeps old new → HasYielded old → HasYielded new
yielded_on old new keeps yielded = (keeps _ yielded.0, λ s. keeps _ (yielded.1 s))

pub armed_on : (a b z : Worker) (old new : Context) (token : ℕ) → z ≡ b → ((t : ℕ) → HasChanged a b t → HasYielded old) → Keeps old new → HasChanged a z token → HasYielded new
armed_on a b z old new token same armed keeps changed = yielded_on old new keeps (armed token (subst (λ v. HasChanged a v token) same changed))

-- what was told in between was told since
pub tells_since : {L Fut : Type 0} (may_serve : ℕ → L → Ended L → Type 0) (may_leave : ℕ → L → L → Type 0) (may_make : ℕ → Type 0) (listeners : ℕ) (a b e : Connections L Fut) → b.notes ≡ a.notes
    → Tells may_serve may_leave may_make listeners b e → Tells may_serve may_leave may_make listeners a e
tells_since may_serve may_leave may_make listeners a b e notes tells = record {
  more = tells.more;
  appended = tells.appended ∙ ap (λ n. sent n ++ tells.more) notes;
  told = tells.told;
}

-- a fault of the checks is one of the turn
pub fault_told : {F E I : Type 0} (may_ready : F → ℕ → Readiness E → Type 0) (may_init : F → ℕ → I → Type 0) (f g : F) (n m : ℕ) (t u : ℕ) (r s : E) (e d : I) → g ≡ f → m ≡ n → t ≡ u → r ≡ s → e ≡ d
    → t < n → may_ready f t (PollReady (Err r)) → may_init f t e → (u < m) × may_ready g u (PollReady (Err s)) × may_init g u d
fault_told may_ready may_init f g n m t u r s e d same many at its why inside ready init = (
  subst (λ k. k < m) at (subst (λ k. t < k) (sym many) inside),
  subst (λ k. may_ready g k (PollReady (Err s))) at (subst (λ x. may_ready g t (PollReady (Err x))) its (subst (λ h. may_ready h t (PollReady (Err r))) (sym same) ready)),
  subst (λ k. may_init g k d) at (subst (λ x. may_init g t x) why (subst (λ h. may_init h t e) (sym same) init)),
)

module _ {Fut S E : Type 0} where
  waits_for : (future : Watched Fut) (old : Slot Fut S E) → StillMaking future old → Rose (making_waits (Some old)) (making_waits {S = S} {E = E} (Some (Making future)))
  waits_for future (Making before) still = still
  waits_for future (Made service) still = absurd still
  waits_for future (Failed error) still = absurd still
  waits_for future (Remaking before error) still = absurd still
  waits_for future Gone still = absurd still

  made_or_waits : (old new : Option (Slot Fut S E)) → AtSlot MadeOrWaits old new → IsMade new ⊎ Rose (making_waits old) (making_waits new)
  made_or_waits None None waits = absurd waits
  made_or_waits None (Some b) waits = absurd waits
  made_or_waits (Some a) None waits = absurd waits
  made_or_waits (Some a) (Some (Making future)) waits = inr (waits_for future a waits)
  made_or_waits (Some a) (Some (Made service)) waits = inl tt
  made_or_waits (Some a) (Some (Failed error)) waits = inl tt
  made_or_waits (Some a) (Some (Remaking future error)) waits = inl tt
  made_or_waits (Some a) (Some Gone) waits = inl tt

  -- each service that was not made was pending
  pub making_on : (slots mid last : List (Slot Fut S E)) → last ≡ mid → ((t : ℕ) → t < length mid → AtSlot MadeOrWaits (slice_get slots t) (slice_get mid t))
      → (t : ℕ) → t < length last → IsMade (slice_get last t) ⊎ Rose (making_waits (slice_get slots t)) (making_waits (slice_get last t))
  making_on slots mid last same waits t inside = subst (λ xs. IsMade (slice_get xs t) ⊎ Rose (making_waits (slice_get slots t)) (making_waits (slice_get xs t))) (sym same)
      (made_or_waits (slice_get slots t) (slice_get mid t) (waits t (subst (λ xs. t < length xs) same inside)))

-- the services were made, then checked, and then stayed
pub checks_turned : {F E S MFut : Type 0} (may_ready : F → ℕ → Readiness E → Type 0) (f g : F) (slots mid told after last : List (Slot MFut S E)) (a m b z : Worker) (made now : Bool)
    → g ≡ f → told ≡ mid → last ≡ after → m ≡ a → z ≡ b → now ≡ made → ((t : ℕ) → HasErred (slice_get mid t) → slice_get slots t ≡ slice_get mid t)
    → ChecksUpTo (may_ready f) told m after b (cond made (length after) 0) → ChecksUpTo (may_ready g) slots a last z (cond now (length last) 0)
checks_turned may_ready f g slots mid told after last a m b z made now same was is core_was core_is stands erred it =
    subst (λ h. ChecksUpTo (may_ready h) slots a last z (cond now (length last) 0)) (sym same)
    (subst (λ k. ChecksUpTo (may_ready f) slots a last z (cond k (length last) 0)) (sym stands)
    (subst (λ v. ChecksUpTo (may_ready f) slots a last v (cond made (length last) 0)) (sym core_is)
    (subst (λ xs. ChecksUpTo (may_ready f) slots a xs b (cond made (length xs) 0)) (sym is)
    (subst (λ v. ChecksUpTo (may_ready f) slots v after b (cond made (length after) 0)) core_was
    (checks_from_made (may_ready f) slots told after m b (cond made (length after) 0) (subst (λ xs. (t : ℕ) → HasErred (slice_get xs t) → slice_get slots t ≡ slice_get xs t) (sym was) erred) it)))))

module _ {F L S Fac E I Fut MFut : Type 0} (fg : FactoryOf Fac L (Ended L) E (Unit {0}) S I MFut Fut) (mg : FutureOf MFut (Result S I)) (sg : ServiceOf S L (Ended L) E Fut) (g : FutureOf Fut (Result (Ended L) E))
    (may_stand : Fut → L → Type 0) (may_serve : F → ℕ → L → Ended L → Type 0) (may_leave : F → ℕ → L → L → Type 0) (may_ready : F → ℕ → Readiness E → Type 0) (may_init : F → ℕ → I → Type 0) (may_make : F → ℕ → Type 0) where
  -- the live connections were polled
  pub works_served : (f h : F) (s t : Services Fac MFut S E) (a b : Connections L Fut) → h ≡ f → t.slots ≡ s.slots → t.factories ≡ s.factories → t.made ≡ s.made → b.told ≡ a.told
      → IsSound g may_stand (may_serve h) (may_leave h) (may_make h) (length t.slots.items) b
      → Works fg mg sg g may_stand (may_serve f) (may_leave f) (may_ready f) (may_init f) (may_make f) s a → Works fg mg sg g may_stand (may_serve h) (may_leave h) (may_ready h) (may_init h) (may_make h) t b
  works_served f h s t a b same slots factories made told sound works = record {
    connections = sound;
    slots = subst (λ k. AreSlots mg sg may_stand (may_serve k) (may_leave k) (may_ready k) (may_init k) (may_make k) t.slots.items) (sym same) (rw slots works.slots);
    factories = subst (λ k. AreFactories fg may_stand (may_serve k) (may_leave k) (may_ready k) (may_init k) (may_make k) t.factories.items) (sym same) (rw factories works.factories);
    made = λ all. rw slots (works.made (sym made ∙ all));
    told = λ is. made ∙ works.told (sym told ∙ is);
  }

  -- the services were checked, and one was refused
  pub sound_checked : (f h : F) (n m : ℕ) (a b : Connections L Fut) → h ≡ f → m ≡ n → b ≡ a → IsSound g may_stand (may_serve f) (may_leave f) (may_make f) n a → IsSound g may_stand (may_serve h) (may_leave h) (may_make h) m b
  sound_checked f h n m a b same many hand sound = subst (λ k. IsSound g may_stand (may_serve k) (may_leave k) (may_make k) m b) (sym same)
      (subst (λ k. IsSound g may_stand (may_serve f) (may_leave f) (may_make f) k b) (sym many) (subst (λ k. IsSound g may_stand (may_serve f) (may_leave f) (may_make f) n k) (sym hand) sound))
