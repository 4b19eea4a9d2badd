-- What a worker is stays so through the steps of a turn.
use Rattle.std.proofs.Common.{◌≡◌, ◌<◌, ◌++◌, ◌∷◌, [], ℕ, List, Result, length, true, Option, Some, None, IfSome, slice_get, sym, ap, ◌∙◌, arith, subst}
use Rattle.std.proofs.lemmas.List.Elements.{All-push}
use Rattle.futures.specs.declared.future.Future.{Ghosts as FutureOf}
use Rattle.rtrb.specs.Ring.{received}
use Rattle.service_core.specs.Meaning.{Readiness}
use Rattle.service_core.specs.declared.ended.Ended.{Ended}
use Rattle.service_core.specs.declared.service.Service.{Ghosts as ServiceOf}
use Rattle.service_core.specs.declared.service_factory.ServiceFactory.{Ghosts as FactoryOf}
use Rattle.service_core.specs.declared.watched.Watched.{Watched}
use Rattle.server_worker.specs.Sound.{IsSound, IsTold}
use Rattle.server_worker.specs.Standing.{AllMade, AreSlots, AtSlot, IsMade, IsSlot, MadeOrWaits, StillMaking}
use Rattle.server_worker.specs.Taken.{Takes}
use Rattle.server_worker.specs.Turn.{Works}
use Rattle.server_worker.specs.declared.connections.Connections.{Connections}
use Rattle.server_jobs.specs.declared.note.Note.TheVariants.{Ready}
use Rattle.server_worker.specs.declared.services.Services.{Services}
use Rattle.server_worker.specs.declared.slot.Slot.{Slot}
use Rattle.server_worker.specs.declared.slot.Slot.TheVariants.{Failed, Gone, Made, Making, Remaking}
use Rattle.server_worker.proofs.TakeSteps.{sound_taken}

still_unmade : {Fut S E : Type 0} (future : Watched Fut) (old : Slot Fut S E) → StillMaking future old → IsMade (Some old) → ⊥
still_unmade future (Making before) still made = made
still_unmade future (Made service) still made = still
still_unmade future (Failed error) still made = still
still_unmade future (Remaking before error) still made = still
still_unmade future Gone still made = still

stays_made : {Fut S E : Type 0} (old new : Option (Slot Fut S E)) → AtSlot MadeOrWaits old new → IsMade old → IsMade new
stays_made None new waits made = absurd made
stays_made (Some a) None waits made = absurd waits
stays_made (Some a) (Some (Making future)) waits made = absurd (still_unmade future a waits made)
stays_made (Some a) (Some (Made service)) waits made = tt
stays_made (Some a) (Some (Failed error)) waits made = tt
stays_made (Some a) (Some (Remaking future error)) waits made = tt
stays_made (Some a) (Some Gone) waits made = tt

pub all_stay_made : {Fut S E : Type 0} (old new : List (Slot Fut S E)) → length new ≡ length old → ((t : ℕ) → t < length new → AtSlot MadeOrWaits (slice_get old t) (slice_get new t)) → AllMade old → AllMade new
all_stay_made old new many waits made t inside = stays_made (slice_get old t) (slice_get new t) (waits t inside) (made t (omega arith))

module _ {L S Fac E I Fut MFut : Type 0} (fg : FactoryOf Fac L (Ended L) E (Unit {0}) S I MFut Fut) (mg : FutureOf MFut (Result S I)) (sg : ServiceOf S L (Ended L) E Fut) (g : FutureOf Fut (Result (Ended L) E))
    (may_stand : Fut → L → Type 0) (may_serve : ℕ → L → Ended L → Type 0) (may_leave : ℕ → L → L → Type 0) (may_ready : ℕ → Readiness E → Type 0)
    (may_init : ℕ → I → Type 0) (may_make : ℕ → Type 0) where
  makes_slot : (token : ℕ) (slot : Option (Slot MFut S E)) → IfSome slot (IsSlot mg sg may_stand (may_serve token) (may_leave token) (may_ready token) (may_init token) (may_make token)) → IsMade slot → may_make token
  makes_slot token None is made = absurd made
  makes_slot token (Some (Making f)) is made = absurd made
  makes_slot token (Some (Made s)) is made = is.0
  makes_slot token (Some (Failed e)) is made = is.0
  makes_slot token (Some (Remaking f e)) is made = is.0.0
  makes_slot token (Some Gone) is made = absurd is

  -- the note that all services stand is true, and may be owed
  pub works_ready : (s : Services Fac MFut S E) (a b : Connections L Fut) → s.made ≡ true → b.owed.items ≡ a.owed.items ++ Ready ∷ [] → b.parcels ≡ a.parcels → b.queue ≡ a.queue → b.strays ≡ a.strays → b.live ≡ a.live → b.stopped ≡ a.stopped → b.forced ≡ a.forced
      → Works fg mg sg g may_stand may_serve may_leave may_ready may_init may_make s a → Works fg mg sg g may_stand may_serve may_leave may_ready may_init may_make s b
  works_ready s a b made owed parcels queue strays live stopped forced works = record {
    connections = record {
      queue = rw (parcels, queue) works.connections.queue;
      strays = rw (parcels, strays) works.connections.strays;
      live = rw (parcels, live) works.connections.live;
      owed = rw (parcels, owed) (All-push (IsTold may_serve may_leave may_make (length s.slots.items) (received a.parcels)) a.owed.items Ready works.connections.owed
          (λ token inside. makes_slot token (slice_get s.slots.items token) (works.slots token) (works.made made token inside)));
      stop = rw (parcels, stopped) works.connections.stop;
      force = rw (parcels, forced) works.connections.force;
    };
    slots = works.slots;
    factories = works.factories;
    made = works.made;
    told = λ is. made;
  }

  -- all were made by now
  pub works_stood : (s t : Services Fac MFut S E) (a : Connections L Fut) → t.slots ≡ s.slots → t.factories ≡ s.factories → t.made ≡ true → AllMade t.slots.items
      → Works fg mg sg g may_stand may_serve may_leave may_ready may_init may_make s a → Works fg mg sg g may_stand may_serve may_leave may_ready may_init may_make t a
  works_stood s t a slots factories made all works = record {
    connections = rw slots works.connections;
    slots = rw slots works.slots;
    factories = rw factories works.factories;
    made = λ _. all;
    told = λ _. made;
  }

  -- services were made, and connections were taken
  pub sound_of_more : (a b : Connections L Fut) (n m k : ℕ) → m ≡ n → k ≡ n → Takes m a b → IsSound g may_stand may_serve may_leave may_make n a → IsSound g may_stand may_serve may_leave may_make k b
  sound_of_more a b n m k is too takes sound = subst (λ i. IsSound g may_stand may_serve may_leave may_make i b) (is ∙ sym too)
      (sound_taken g may_stand may_serve may_leave may_make m a b takes (subst (λ i. IsSound g may_stand may_serve may_leave may_make i a) (sym is) sound))

  pub sound_of_many : (a : Connections L Fut) (n k : ℕ) → k ≡ n → IsSound g may_stand may_serve may_leave may_make n a → IsSound g may_stand may_serve may_leave may_make k a
  sound_of_many a n k many sound = subst (λ i. IsSound g may_stand may_serve may_leave may_make i a) (sym many) sound

  pub works_made : (s t : Services Fac MFut S E) (a : Connections L Fut) → length t.slots.items ≡ length s.slots.items → t.made ≡ s.made → t.factories ≡ s.factories
      → ((k : ℕ) → k < length t.slots.items → AtSlot MadeOrWaits (slice_get s.slots.items k) (slice_get t.slots.items k))
      → AreSlots mg sg may_stand may_serve may_leave may_ready may_init may_make t.slots.items
      → Works fg mg sg g may_stand may_serve may_leave may_ready may_init may_make s a → Works fg mg sg g may_stand may_serve may_leave may_ready may_init may_make t a
  works_made s t a many made factories waits slots works = record {
    connections = sound_of_many a (length s.slots.items) (length t.slots.items) many works.connections;
    slots = slots;
    factories = rw factories works.factories;
    made = λ all. all_stay_made s.slots.items t.slots.items many waits (works.made (sym made ∙ all));
    told = λ is. made ∙ works.told is;
  }

  -- connections were taken
  pub works_taken : (s t : Services Fac MFut S E) (a b : Connections L Fut) (m : ℕ) → m ≡ length s.slots.items → t.slots.items ≡ s.slots.items → t.made ≡ s.made → t.factories ≡ s.factories → Takes m a b
      → Works fg mg sg g may_stand may_serve may_leave may_ready may_init may_make s a → Works fg mg sg g may_stand may_serve may_leave may_ready may_init may_make t b
  works_taken s t a b m is slots made factories takes works = record {
    connections = sound_of_more a b (length s.slots.items) m (length t.slots.items) is (ap length slots) takes works.connections;
    slots = rw slots works.slots;
    factories = rw factories works.factories;
    made = λ all. rw slots (works.made (sym made ∙ all));
    told = λ is. made ∙ works.told (sym takes.told_ready ∙ is);
  }
