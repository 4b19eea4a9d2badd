-- The making of the first services was begun.
use Rattle.std.proofs.Common.{◌≡◌, zero, suc, ℕ, ◌++◌, ◌∷◌, [], List, length, replicate, get_or, IfSome, slice_get, refl, ap, true, false, true≢false, Result, Ok, Err, sym, ◌∙◌, arith, subst}
use Rattle.service_core.specs.Making.{Makes}
use Rattle.service_core.specs.Meaning.{Readiness}
use Rattle.service_core.specs.declared.ended.Ended.{Ended}
use Rattle.service_core.specs.declared.service.Service.{Ghosts as ServiceOf}
use Rattle.service_core.specs.declared.service_factory.ServiceFactory.{Ghosts as FactoryOf}
use Rattle.worker_core.specs.WorkerCore.{Worker, new_worker, status_of}
use Rattle.worker_core.specs.declared.service_status.ServiceStatus.TheVariants.{Unavailable}
use Rattle.server_run.specs.Creating.{Creates}
use Rattle.server_run.proofs.Standing.{stands_made}
use Rattle.std.proofs.lemmas.List.{length-replicate}
use Rattle.std.proofs.lemmas.List.Elements.{All-nil}
use Rattle.futures.specs.declared.future.Future.{Ghosts as FutureOf}
use Rattle.rtrb.specs.Ring.{received}
use Rattle.server_worker.specs.Room.{IsFresh}
use Rattle.server_worker.specs.Sound.{IsTold, Lives, Strays, WaitsFor}
use Rattle.server_worker.specs.Standing.{AreFactories, AreSlots, MakesFor, fits, fits_at}
use Rattle.server_worker.specs.Turn.{Works}
use Rattle.server_worker.specs.declared.connections.Connections.{Connections}
use Rattle.server_worker.specs.declared.services.Services.{Services}
use Rattle.server_worker.specs.declared.slot.Slot.{Slot}

-- what the factory of a token makes is of the token
pub makes_for : {F L E S I M Fut : Type 0} (fg : FactoryOf F L (Ended L) E (Unit {0}) S I M Fut) (sg : ServiceOf S L (Ended L) E Fut)
    (may_stand : Fut → L → Type 0) (may_serve : L → Ended L → Type 0) (may_leave : L → L → Type 0) (may_ready : Readiness E → Type 0)
    (may_init : I → Type 0) (may_make : Type 0) (factory : F) → Creates fg may_stand may_serve may_leave may_ready may_init may_make factory
    → (r : Result S I) → Makes sg (fg.may factory tt) (fg.may_ready factory tt) (fg.may_begin factory tt) (fg.may_make factory tt) (fg.may_init factory tt) r
    → MakesFor sg may_stand may_serve may_leave may_ready may_init may_make r
makes_for fg sg may_stand may_serve may_leave may_ready may_init may_make factory creates (Ok service) made =
    (creates.makes made.0, stands_made fg sg may_stand may_serve may_leave may_ready may_init may_make factory service creates made.1)
makes_for fg sg may_stand may_serve may_leave may_ready may_init may_make factory creates (Err error) made = creates.inits error made

-- a fact of each place holds of one more
pub each_push : {X : Type 0} (P : ℕ → X → Type 0) (xs : List X) (x : X) (n : ℕ) → length xs ≡ n → ((t : ℕ) → IfSome (slice_get xs t) (P t)) → P n x → (t : ℕ) → IfSome (slice_get (xs ++ x ∷ []) t) (P t)
each_push P [] x n is all here zero = subst (λ k. P k x) (sym is) here
each_push P [] x n is all here (suc t) = tt
each_push P (y ∷ xs) x n is all here zero = all zero
each_push P (y ∷ xs) x zero is all here (suc t) = absurd (omega arith)
each_push P (y ∷ xs) x (suc n) is all here (suc t) = each_push (λ k. P (suc k)) xs x n (omega arith) (λ k. all (suc k)) here t

-- each service of a new worker is unavailable
new_unavailable : (listeners token : ℕ) → status_of (new_worker listeners) token ≡ Unavailable
new_unavailable listeners token = unavailable listeners token
  where
    unavailable : (n t : ℕ) → get_or (replicate n Unavailable) t Unavailable ≡ Unavailable
    unavailable zero t = refl
    unavailable (suc n) zero = refl
    unavailable (suc n) (suc t) = unavailable n t

-- what is being made for the first time fits
pub new_fits : {Fut S E : Type 0} (slots : List (Slot Fut S E)) (listeners : ℕ) → ((t : ℕ) → fits_at Unavailable (slice_get slots t) ≡ true) → (t : ℕ) → fits_at (status_of (new_worker listeners) t) (slice_get slots t) ≡ true
new_fits slots listeners making t = subst (λ s. fits_at s (slice_get slots t) ≡ true) (sym (new_unavailable listeners t)) (making t)

-- one more fits
pub fits_push : {Fut S E : Type 0} (slots : List (Slot Fut S E)) (slot : Slot Fut S E) → ((t : ℕ) → fits_at Unavailable (slice_get slots t) ≡ true) → fits Unavailable slot ≡ true → (t : ℕ) → fits_at Unavailable (slice_get (slots ++ slot ∷ []) t) ≡ true
fits_push [] slot all here zero = here
fits_push [] slot all here (suc t) = refl
fits_push (s ∷ slots) slot all here zero = all zero
fits_push (s ∷ slots) slot all here (suc t) = fits_push slots slot (λ k. all (suc k)) here t

-- a new worker is what it is to be
pub works_new : {L S Fac E I Fut MFut : Type 0} (fg : FactoryOf Fac L (Ended L) E (Unit {0}) S I MFut Fut) (mg : FutureOf MFut (Result S I)) (sg : ServiceOf S L (Ended L) E Fut) (g : FutureOf Fut (Result (Ended L) E))
    (may_stand : Fut → L → Type 0) (may_serve : ℕ → L → Ended L → Type 0) (may_leave : ℕ → L → L → Type 0) (may_ready : ℕ → Readiness E → Type 0)
    (may_init : ℕ → I → Type 0) (may_make : ℕ → Type 0) (s : Services Fac MFut S E) (hand : Connections L Fut) → s.made ≡ false → AreSlots mg sg may_stand may_serve may_leave may_ready may_init may_make s.slots.items
    → AreFactories fg may_stand may_serve may_leave may_ready may_init may_make s.factories.items → IsFresh hand → Works fg mg sg g may_stand may_serve may_leave may_ready may_init may_make s hand
works_new fg mg sg g may_stand may_serve may_leave may_ready may_init may_make s hand made slots factories fresh = record {
  connections = record {
    queue = rw fresh.queue (All-nil (WaitsFor (length s.slots.items) (received hand.parcels)));
    strays = rw fresh.strays (All-nil (Strays (length s.slots.items) (received hand.parcels)));
    live = rw fresh.live (All-nil (Lives g may_stand may_serve may_leave (received hand.parcels)));
    owed = rw fresh.owed (All-nil (IsTold may_serve may_leave may_make (length s.slots.items) (received hand.parcels)));
    stop = λ is. absurd (true≢false (sym is ∙ fresh.stopped));
    force = λ is. absurd (true≢false (sym is ∙ fresh.forced));
  };
  slots = slots;
  factories = factories;
  made = λ all. absurd (let e : true ≡ false = sym all ∙ made in cc);
  told = λ is. absurd (let e : true ≡ false = sym is ∙ fresh.told in cc);
}

pub new_many : (n m : ℕ) (w : Worker) → m ≡ n → w ≡ new_worker n → m ≡ length w.services
new_many n m w many is = many ∙ sym (ap (λ v. length v.services) is ∙ length-replicate n Unavailable)
