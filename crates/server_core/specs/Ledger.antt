-- Where each connection is, by itself.
use Rattle.std.specs.Prelude.{◌≡◌, ◌≢◌, ◌<◌, ◌⊎◌, ℕ, ◌==◌, Bool, true, false, List, [], ◌∷◌, ◌++◌, length, count_by, cond, Some, slice_get, slice_set, slice_index}
use Rattle.server_core.specs.declared.command.Command.TheVariants.{Stop}
use Rattle.server_core.specs.declared.event.Event.{Event}
use Rattle.server_core.specs.declared.event.Event.TheVariants.{Command, Back, Got, Sent, Retired}
use Rattle.server_core.specs.Core.{Core, step, held, all_retired}

-- where a connection is: it waits for a worker, is at one, or is done
pub data Place : Type 0 where
  waits : Place
  at_worker : ℕ → Place
  is_done : Place

-- the places of all connections that were given, in the order in which they came
abbrev pub Ledger : Type 0
Ledger = List Place

abbrev pub same_place : Place → Place → Bool
same_place waits waits = true
same_place (at_worker v) (at_worker w) = v == w
same_place is_done is_done = true
same_place _ _ = false

abbrev pub how_many : Place → Ledger → ℕ
how_many place ledger = count_by (same_place place) ledger

-- one connection goes from a place to another, and the others stay
abbrev pub OneGoes : Place → Place → Ledger → Ledger → Type 0
OneGoes from to before after = (k : ℕ) × (slice_get before k ≡ Some from) × (after ≡ slice_set before k to)

-- the connection that waits, if there is one, is done
abbrev pub WaitingIsDone : Ledger → Ledger → Type 0
WaitingIsDone before after = OneGoes waits is_done before after ⊎ ((how_many waits before ≡ 0) × (after ≡ before))

-- what an event does to the ledger; one of those at a worker comes back, whichever
abbrev pub Moves : Core → Event → Ledger → Ledger → Type 0
Moves s (Got t) before after = after ≡ before ++ waits ∷ []
Moves s (Sent w remains) before after = OneGoes waits (at_worker w) before after
Moves s (Back w) before after = OneGoes (at_worker w) is_done before after
Moves s (Command (Stop graceful)) before after = WaitingIsDone before after
Moves s (Retired w) before after = cond (all_retired (step s (Retired w))) (WaitingIsDone before after) (after ≡ before)
Moves s _ before after = after ≡ before

-- a list of events leads from one ledger to another
abbrev pub LeadsTo : Core → Ledger → List Event → Ledger → Type 0
LeadsTo s before [] after = after ≡ before
LeadsTo s before (e ∷ es) after = (between : Ledger) × Moves s e before between × LeadsTo (step s e) between es after

-- the ledger tells what the counts tell
pub record IsLedgerOf (s : Core) (ledger : Ledger) : Type 0 where
  pub given : length ledger ≡ s.given
  pub waiting : how_many waits ledger ≡ held s.waiting
  pub out : (w : ℕ) → how_many (at_worker w) ledger ≡ slice_index s.out w
  pub done : how_many is_done ledger ≡ s.done

-- none that is done moves, and one at a worker stays there until it is done
abbrev pub GoesOn : Place → Place → Type 0
GoesOn waits to = Unit {0}
GoesOn (at_worker w) to = (to ≡ at_worker w) ⊎ (to ≡ is_done)
GoesOn is_done to = to ≡ is_done

-- no entry is taken away, and each goes on
abbrev pub AllGoOn : Ledger → Ledger → Type 0
AllGoOn before after = (k : ℕ) (from : Place) → slice_get before k ≡ Some from → (to : Place) × (slice_get after k ≡ Some to) × GoesOn from to

-- the k-th connection was there before, and is at another place after
abbrev pub HasMoved : Ledger → Ledger → ℕ → Type 0
HasMoved before after k = (k < length before) × (slice_get after k ≢ slice_get before k)

abbrev pub AtMostOneMoves : Ledger → Ledger → Type 0
AtMostOneMoves before after = (j k : ℕ) → HasMoved before after j → HasMoved before after k → j ≡ k
