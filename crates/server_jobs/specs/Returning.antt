-- What comes back of a worker's connections at its join alone.
use Rattle.std.specs.Prelude.{◌≡◌, ◌+◌, ◌++◌, ◌∷◌, [], ℕ, false, List, Option, None, Some, length}
use Rattle.std.specs.List.{flat_map}
use Rattle.std.specs.Option.{option_map_or}
use Rattle.rtrb.specs.Ring.{known_items}
use Rattle.server_run.specs.Done.{Adds}
use Rattle.server_run.specs.declared.entry.Entry.{Entry}
use Rattle.server_run.specs.declared.outcome.Outcome.TheVariants.{Lost, Stopped}
use Rattle.server_jobs.specs.declared.line.Joined.{Joined}
use Rattle.server_jobs.specs.declared.note.Note.{Note}
use Rattle.server_jobs.specs.declared.note.Note.TheVariants.{Ready, Back, Faulted}
use Rattle.server_jobs.specs.declared.parcel.Parcel.{Parcel}
use Rattle.server_jobs.specs.declared.parcel.Parcel.TheVariants.{Conn, Stop}
use Rattle.server_jobs.specs.declared.waiting.Waiting.{Waiting}

-- the connection that a note hands back
abbrev pub entry_of_note : {L : Type 0} → Note L → Option (Entry L)
entry_of_note Ready = None
entry_of_note (Back e) = Some e
entry_of_note Faulted = None

-- a connection that no service got is stopped as it came
abbrev pub entry_of_parcel : {L : Type 0} → Parcel L → Option (Entry L)
entry_of_parcel (Conn serial token place link) = Some (record { serial = serial; token = token; place = place; link = link; outcome = Stopped false })
entry_of_parcel (Stop graceful) = None

-- one that has not ended is lost by the worker that had it, as it stands
abbrev pub entry_of_waiting : {L : Type 0} → ℕ → Waiting L → Option (Entry L)
entry_of_waiting worker w = Some (record { serial = w.serial; token = w.token; place = w.place; link = w.link; outcome = Lost (Some worker) })

abbrev pub one_or_none : {L : Type 0} → Option (Entry L) → List (Entry L)
one_or_none entry = option_map_or (λ e. e ∷ []) entry []

-- the entries of these, in their order
abbrev pub entries_of : {X L : Type 0} → (X → Option (Entry L)) → List X → List (Entry L)
entries_of entry_of xs = flat_map (λ x. one_or_none (entry_of x)) xs

-- What is brought back by the join of a worker: what is on its way back, what is owed, what has not ended, and what is left in the ring to the worker.
abbrev pub brought_back : {L F D : Type 0} → ℕ → Joined L F D → List (Entry L)
brought_back worker j =
    entries_of entry_of_note (known_items j.notes) ++ (entries_of entry_of_note j.handed.owed.items
    ++ (entries_of (entry_of_waiting worker) j.handed.rest.items ++ entries_of entry_of_parcel (known_items j.handed.parcels)))

-- these entries were added to `done`, for which there was room
pub record HandsOn {L T : Type 0} (taken : T → Option (List (Entry L))) (count served spare : T → ℕ) (old new : T) (entries : List (Entry L)) : Type 0 where
  pub adds : Adds taken count served old new entries
  pub room : spare new + length entries ≡ spare old

-- From a front of these on, the entries of those that went were handed on, in their order.
pub record HandsFrom {X L T : Type 0} (entry_of : X → Option (Entry L)) (taken : T → Option (List (Entry L))) (count served spare : T → ℕ) (whole left : List X) (old new : T) : Type 0 where
  pub went : List X
  pub is : whole ≡ went ++ left
  pub hands : HandsOn taken count served spare old new (entries_of entry_of went)
