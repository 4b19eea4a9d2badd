-- What a worker is between two turns, and when a turn may say that it goes on.
use Rattle.std.specs.Prelude.{◌≡◌, ◌≢◌, ◌↔◌, ◌<◌, ◌≤◌, ◌⊎◌, ⊤, ℕ, Bool, true, false, List, [], length, slice_get, Result}
use Rattle.futures.specs.declared.future.Future.{Ghosts as FutureOf}
use Rattle.rtrb.specs.Ring.{known_free}
use Rattle.service_core.specs.Counts.{Rose}
use Rattle.service_core.specs.Meaning.{Readiness}
use Rattle.service_core.specs.declared.ended.Ended.{Ended}
use Rattle.service_core.specs.declared.service.Service.{Ghosts as ServiceOf}
use Rattle.service_core.specs.declared.service_factory.ServiceFactory.{Ghosts as FactoryOf}
use Rattle.server_worker.specs.Sound.{IsSound}
use Rattle.server_worker.specs.Standing.{AllMade, AreFactories, AreSlots, IsMade, making_waits}
use Rattle.server_worker.specs.declared.connections.Connections.{Connections}
use Rattle.server_worker.specs.declared.services.Services.{Services}
use Rattle.server_worker.specs.declared.slot.Slot.{Slot}
use Rattle.server_worker.specs.declared.turned.Turned.{Turned}
use Rattle.server_worker.specs.declared.turned.Turned.TheVariants.{Going, Short, Left, Unstarted, Faulted}

-- what each connection and each service of a worker is
pub record Works {L S Fac E I Fut MFut : Type 0} (fg : FactoryOf Fac L (Ended L) E (Unit {0}) S I MFut Fut) (mg : FutureOf MFut (Result S I)) (sg : ServiceOf S L (Ended L) E Fut) (g : FutureOf Fut (Result (Ended L) E))
    (may_stand : Fut → L → Type 0) (may_serve : ℕ → L → Ended L → Type 0) (may_leave : ℕ → L → L → Type 0) (may_ready : ℕ → Readiness E → Type 0)
    (may_init : ℕ → I → Type 0) (may_make : ℕ → Type 0) (services : Services Fac MFut S E) (hand : Connections L Fut) : Type 0 where
  pub connections : IsSound g may_stand may_serve may_leave may_make (length services.slots.items) hand
  pub slots : AreSlots mg sg may_stand may_serve may_leave may_ready may_init may_make services.slots.items
  pub factories : AreFactories fg may_stand may_serve may_leave may_ready may_init may_make services.factories.items
  pub made : services.made ≡ true → AllMade services.slots.items
  -- that they all stand is told only where they do
  pub told : hand.told ≡ true → services.made ≡ true

abbrev pub IsGoing : {E I : Type 0} → Turned E I → Type 0
IsGoing Going = ⊤
IsGoing Short = ⊤
IsGoing (Left none_held) = ⊥
IsGoing (Unstarted token error) = ⊥
IsGoing (Faulted token readiness error) = ⊥

abbrev pub IsFaulted : {E I : Type 0} → Turned E I → Type 0
IsFaulted Going = ⊥
IsFaulted Short = ⊥
IsFaulted (Left none_held) = ⊥
IsFaulted (Unstarted token error) = ⊥
IsFaulted (Faulted token readiness error) = ⊤

-- What a worker waits for when it goes on, beside what its services do that were made. After a stop it asks nothing of its services.
pub record GoesOn {L S Fac E Fut MFut : Type 0} (before : List (Slot MFut S E)) (services : Services Fac MFut S E) (hand : Connections L Fut) : Type 0 where
  -- it keeps no note while a place of their ring is known free beside the last one, which is for the note that it ends by a fault
  pub notes : (hand.owed.items ≡ []) ⊎ (known_free hand.notes ≤ 1)
  -- where it makes services, not all stand, and each that doesn't was pending
  pub unmade : hand.stopped ≡ false → services.made ≡ false → ¬ AllMade services.slots.items
  pub making : hand.stopped ≡ false → services.made ≡ false → (token : ℕ) → token < length services.slots.items
      → IsMade (slice_get services.slots.items token) ⊎ Rose (making_waits (slice_get before token)) (making_waits (slice_get services.slots.items token))

-- Stopped by force it leaves, and stopped otherwise it leaves where it holds no connection; and else it goes on.
abbrev pub ComesTo : {E I : Type 0} → Bool → Bool → ℕ → Bool → Turned E I → Type 0
ComesTo stopped forced total all Going = (all ≡ true) × (stopped ≡ true → (total ≢ 0) × (forced ≡ false))
ComesTo stopped forced total all Short = (all ≡ false) × (stopped ≡ true → (total ≢ 0) × (forced ≡ false))
ComesTo stopped forced total all (Left none_held) = (stopped ≡ true) × ((none_held ≡ true) ↔ (total ≡ 0)) × (none_held ≡ false → forced ≡ true)
ComesTo stopped forced total all (Unstarted token error) = ⊥
ComesTo stopped forced total all (Faulted token readiness error) = ⊥
