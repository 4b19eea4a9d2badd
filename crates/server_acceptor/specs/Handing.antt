-- That the acceptor takes back what the workers hand it.
use Rattle.std.specs.Prelude.{◌≡◌, ◌⊎◌, ◌<◌, ⊤, ℕ, ◌+◌, ◌∷◌, [], Bool, List, true, is_some, cond, nat_eq, length, map, sum_by, count_by, All, Any, Contains, Option, slice_get, slice_index}
use Rattle.std.specs.Option.{option_map_or}
use Rattle.rtrb.specs.Ring.{known_items, received}
use Rattle.rtrb.specs.declared.consumer.Consumer.{Consumer}
use Rattle.service_core.specs.Link.{Identity}
use Rattle.server_core.specs.declared.event.Event.{Event}
use Rattle.server_core.specs.declared.event.Event.TheVariants.{Notice, Back as BackOf}
use Rattle.server_run.specs.Done.{Adds}
use Rattle.server_run.specs.Outcome.{is_stopped}
use Rattle.server_run.specs.declared.entry.Entry.{Entry}
use Rattle.server_jobs.specs.Cards.{Card, of_entry}
use Rattle.server_acceptor.specs.Accepting.{IsNoted, Receives, is_back}
use Rattle.server_acceptor.specs.Acceptors.{all_ready}
use Rattle.server_acceptor.specs.Carrying.{came_back}
use Rattle.server_acceptor.specs.Logging.{Logs}
use Rattle.server_acceptor.specs.Notes.{count_back}
use Rattle.server_acceptor.specs.Rings.{ring_out}
use Rattle.server_acceptor.specs.declared.acceptor.Acceptor.{Acceptor}
use Rattle.server_jobs.specs.declared.note.Note.{Note}
use Rattle.server_jobs.specs.declared.note.Note.TheVariants.{Ready, Back, Faulted}

-- a connection came back from a worker, or a worker is free again
abbrev pub IsReturn : Event → Type 0
IsReturn e = ((w : ℕ) × (e ≡ BackOf w)) ⊎ ((w : ℕ) × (e ≡ Notice w))

abbrev pub AllReturn : List Event → Type 0
AllReturn [] = ⊤
AllReturn (e ∷ es) = IsReturn e × AllReturn es

-- one connection is out less at w
pub record Lowers {L : Type 0} (a b : Acceptor L) (w : ℕ) : Type 0 where
  pub logs : Logs a.core b.core a.events.items b.events.items
  pub returns : AllReturn logs.more
  pub backs : (v : ℕ) → count_by (is_back v) logs.more ≡ cond (nat_eq w v) 1 0

-- From a to b just these entries came back from the workers, and were handed on; for each worker what is out fell by what came back
-- from it. The events that came behind those before tell so.
pub record HandsBy {L D : Type 0} (identity : L → Identity) (taken : D → Option (List (Entry L))) (count served : D → ℕ) (a b : Acceptor L) (old new : D) (before after : List Event) : Type 0 where
  pub entries : List (Entry L)
  pub adds : Adds taken count served old new entries
  pub rings : map ring_out b.notes.items ≡ map ring_out a.notes.items
  pub back : (h : Card → ℕ) → came_back identity h b.notes.items ≡ came_back identity h a.notes.items + sum_by (of_entry identity h) entries
  pub noted : All (λ e. Any (λ c. Contains (received c) (Back e)) b.notes.items) entries
  -- one that was stopped came only after a stop
  pub founded : All (λ e. is_stopped e.outcome ≡ true → is_some b.core.stopping ≡ true) entries
  pub kept : (e : Entry L) → Any (λ c. Contains (received c) (Back e)) a.notes.items → Any (λ c. Contains (received c) (Back e)) b.notes.items
  pub balance : (w : ℕ) → count_back identity b.notes.items w + slice_index b.core.out w ≡ count_back identity a.notes.items w + slice_index a.core.out w
  pub ended : b.core.ended ≡ a.core.ended
  pub core_waiting : b.core.waiting ≡ a.core.waiting
  pub order : b.core.order ≡ a.core.order
  pub paused : b.core.paused ≡ a.core.paused
  pub stopping : b.core.stopping ≡ a.core.stopping
  pub parcels : b.parcels ≡ a.parcels
  pub waiting : b.waiting ≡ a.waiting
  pub stopped : b.stopped ≡ a.stopped
  pub forced : b.forced ≡ a.forced
  pub stop : b.stop ≡ a.stop
  pub shutdown_timeout : b.shutdown_timeout ≡ a.shutdown_timeout
  pub serial : b.serial ≡ a.serial
  pub places : b.places ≡ a.places
  pub failed : b.failed ≡ a.failed
  pub limit : b.limit ≡ a.limit
  pub retry_limit : b.retry_limit ≡ a.retry_limit
  pub lacks_room : b.lacks_room ≡ a.lacks_room
  pub first : b.first ≡ a.first
  pub failures : b.core.failures ≡ a.core.failures
  -- the events tell what came back
  pub logs : Logs a.core b.core before after
  pub returns : AllReturn logs.more
  pub backs : (w : ℕ) → count_back identity b.notes.items w ≡ count_back identity a.notes.items w + count_by (is_back w) logs.more
  -- a worker that is ready stays so, and told so
  pub ready : all_ready a ≡ true → all_ready b ≡ true
  pub marks : IsNoted a → IsNoted b
  -- nothing comes back where nothing was accepted
  pub early : a.serial ≡ 0 → entries ≡ []
  pub receives : (w : ℕ) → Receives a b w

-- the same, as the acceptor wrote it down
abbrev pub Hands : {L D : Type 0} → (L → Identity) → (D → Option (List (Entry L))) → (D → ℕ) → (D → ℕ) → Acceptor L → Acceptor L → D → D → Type 0
Hands identity taken count served a b old new = HandsBy identity taken count served a b old new a.events.items b.events.items

-- The next note of w may be taken: it is no connection, unless one is out, and none that was stopped, unless a stop came.
abbrev pub MayTake : {L : Type 0} → ℕ → Option Bool → List (Note L) → Type 0
MayTake out stopping [] = ⊥
MayTake out stopping (Ready ∷ notes) = ⊤
MayTake out stopping (Back e ∷ notes) = (0 < out) × (is_stopped e.outcome ≡ true → is_some stopping ≡ true)
MayTake out stopping (Faulted ∷ notes) = ⊤

-- how many notes are known in the ring of a worker
abbrev pub known_at : {L A P : Type 0} → List (Consumer (Note L) A P) → ℕ → ℕ
known_at ps w = option_map_or (λ c. length (known_items c)) (slice_get ps w) 0
