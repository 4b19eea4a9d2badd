-- Of the live connections that rest.
use Rattle.std.specs.Prelude.{◌≡◌, ◌<◌, ℕ, List, Option, Some, None, Contains, slice_get}
use Rattle.service_core.specs.Shown.{wait_count}
use Rattle.server_worker.specs.declared.live.Live.{Live}

-- what stands at a slot
abbrev pub berth_of : List ℕ → Option ℕ → Option ℕ
berth_of berths None = None
berth_of berths (Some slot) = slice_get berths slot

-- what stood at each slot but this one stands there
abbrev pub KeepsOthers : List ℕ → List ℕ → Option ℕ → Type 0
KeepsOthers before after slot = (s at : ℕ) → (slot ≡ Some s → ⊥) → slice_get before s ≡ Some at → slice_get after s ≡ Some at

module _ {L Fut : Type 0} where
  -- a poll of it answered `Pending` before
  abbrev pub HasWaited : Live L Fut → Type 0
  HasWaited c = 0 < wait_count c.future

  -- the slot for which it waits is not among these
  abbrev pub IsUnheard : List ℕ → Live L Fut → Type 0
  IsUnheard news c = (slot : ℕ) → c.slot ≡ Some slot → Contains news slot → ⊥

  -- each waits for a slot, at which its place stands
  abbrev pub AreBerthed : List ℕ → List (Live L Fut) → Type 0
  AreBerthed berths rested = (at : ℕ) (c : Live L Fut) → slice_get rested at ≡ Some c → berth_of berths c.slot ≡ Some at

  -- each of these is one of those
  abbrev pub AreAmong : List (Live L Fut) → List (Live L Fut) → Type 0
  AreAmong these those = (at : ℕ) (c : Live L Fut) → slice_get these at ≡ Some c → (before : ℕ) × (slice_get those before ≡ Some c)

  -- none of these waits for the slot
  abbrev pub NoneWaitsFor : ℕ → List (Live L Fut) → Type 0
  NoneWaitsFor slot these = (at : ℕ) (c : Live L Fut) → slice_get these at ≡ Some c → c.slot ≡ Some slot → ⊥

  -- none of these waits for one of the slots
  abbrev pub NoneWaitsForAny : List ℕ → List (Live L Fut) → Type 0
  NoneWaitsForAny slots these = (at : ℕ) (c : Live L Fut) → slice_get these at ≡ Some c → IsUnheard slots c
