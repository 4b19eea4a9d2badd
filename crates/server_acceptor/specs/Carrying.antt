-- Where the connections are that the listeners gave: on the way to a worker, waiting, let go, or come back.
use Rattle.std.specs.Prelude.{◌≡◌, ◌⊎◌, ◌≤◌, ◌<◌, ⊤, ℕ, ◌+◌, ◌==◌, ◌&&◌, Bool, true, false, cond, List, length, drop, sum_by, All, Any, Contains, Option, Some, None, IfSome, slice_get, slice_index, slice_index_or}
use Rattle.std.specs.Option.{option_map, option_map_or}
use Rattle.rtrb.specs.Ring.{received, sent}
use Rattle.rtrb.specs.declared.consumer.Consumer.{Consumer}
use Rattle.rtrb.specs.declared.producer.Producer.{Producer}
use Rattle.service_core.specs.Link.{Identity}
use Rattle.server_run.specs.Delivery.{given_at, left_at, once_below, rise}
use Rattle.server_run.specs.declared.entry.Entry.{Entry}
use Rattle.server_run.specs.declared.outcome.Outcome.TheVariants.{Lost, Stopped}
use Rattle.server_jobs.specs.Cards.{Card, of_entry, of_note, of_parcel, of_waiting}
use Rattle.server_acceptor.specs.Notes.{count_back}
use Rattle.server_acceptor.specs.Rings.{count_put}
use Rattle.server_acceptor.specs.declared.acceptor.Acceptor.{Acceptor}
use Rattle.server_jobs.specs.declared.note.Note.{Note}
use Rattle.server_jobs.specs.declared.note.Note.TheVariants.{Back}
use Rattle.server_jobs.specs.declared.parcel.Parcel.{Parcel}
use Rattle.server_jobs.specs.declared.parcel.Parcel.TheVariants.{Conn, Stop}
use Rattle.server_jobs.specs.declared.waiting.Waiting.{Waiting}

-- weighs 1 where the test holds
abbrev pub each : (Card → Bool) → Card → ℕ
each test c = cond (test c) 1 0

abbrev pub has_serial : ℕ → Card → Bool
has_serial k c = c.serial == k

abbrev pub has_place : ℕ → ℕ → Card → Bool
has_place token k c = (c.token == token) && (c.place == k)

module _ {L : Type 0} (identity : L → Identity) (h : Card → ℕ) where
  -- the weight of what was put on the rings of all workers
  abbrev pub put : {A P : Type 0} → List (Producer (Parcel L) A P) → ℕ
  put producers = sum_by (λ p. sum_by (of_parcel identity h) (sent p)) producers

  -- of what came back from them
  abbrev pub came_back : {A P : Type 0} → List (Consumer (Note L) A P) → ℕ
  came_back consumers = sum_by (λ c. sum_by (of_note identity h) (received c)) consumers

  -- of the connection that waits
  abbrev pub in_waiting : Option (Waiting L) → ℕ
  in_waiting waiting = option_map_or (of_waiting identity h) waiting 0

  -- of what was let go
  abbrev pub let_gone : List (Entry L) → ℕ
  let_gone gone = sum_by (of_entry identity h) gone

-- the link is the one that stood at this place of its listener
abbrev pub IsInPlace : {Li L : Type 0} → (Li → Option (List L)) → List Li → ℕ → ℕ → L → Type 0
IsInPlace left old token place link = IfSome (left_at left old token) (λ links. slice_get links place ≡ Some link)

abbrev pub ParcelIsInPlace : {Li L : Type 0} → (Li → Option (List L)) → List Li → Parcel L → Type 0
ParcelIsInPlace left old (Conn s t p link) = IsInPlace left old t p link
ParcelIsInPlace left old (Stop graceful) = ⊤

-- the acceptor let it go, with its link as it was accepted: at a stop, or, where it says so, since no worker was left
abbrev pub IsLetGo : {Li L : Type 0} → (Li → Option (List L)) → List Li → Bool → Entry L → Type 0
IsLetGo left old none_left e = ((e.outcome ≡ Stopped false) ⊎ ((e.outcome ≡ Lost None) × (none_left ≡ true))) × IsInPlace left old e.token e.place e.link

-- From the listeners as they were to the listeners as they are: what they gave was put on rings, waits, or was let go, each once; and
-- the entries are what came back, and what was let go.
pub record Carries {Li L : Type 0} (given : Li → ℕ) (left : Li → Option (List L)) (identity : L → Identity) (none_left : Bool) (old new : List Li)
    (a : Acceptor L) (entries : List (Entry L)) : Type 0 where
  pub gone : List (Entry L)
  pub let_go : All (IsLetGo left old none_left) gone
  -- the serials are the numbers below their count, each once
  pub count : (put identity (λ c. 1) a.parcels.items + in_waiting identity (λ c. 1) a.waiting) + let_gone identity (λ c. 1) gone ≡ a.serial
  pub serials : (k : ℕ) → (put identity (each (has_serial k)) a.parcels.items + in_waiting identity (each (has_serial k)) a.waiting) + let_gone identity (each (has_serial k)) gone ≡ once_below a.serial k
  -- the places of a listener are the numbers below its rise, each once
  pub places : (token k : ℕ) → (put identity (each (has_place token k)) a.parcels.items + in_waiting identity (each (has_place token k)) a.waiting) + let_gone identity (each (has_place token k)) gone ≡ once_below (rise given old new token) k
  -- each link is the one that stood there
  pub on_rings : All (λ p. All (ParcelIsInPlace left old) (sent p)) a.parcels.items
  pub waits : IfSome a.waiting (λ w. IsInPlace left old w.token w.place w.link)
  -- a listener that tells what is left has lost just these
  pub remains : (token : ℕ) → left_at left new token ≡ option_map (drop (rise given old new token)) (left_at left old token)
  pub rises : (token : ℕ) → given_at given old token ≤ given_at given new token
  pub next_places : (token : ℕ) → token < length a.places.items → slice_index_or a.places.items token 0 ≡ rise given old new token
  -- what came back was handed on, and what was let go
  pub back : (h : Card → ℕ) → came_back identity h a.notes.items + let_gone identity h gone ≡ sum_by (of_entry identity h) entries
  pub noted : All (λ e. Any (λ c. Contains (received c) (Back e)) a.notes.items ⊎ Contains gone e) entries
  -- the core counts, for each worker, what is out
  pub out : (w : ℕ) → count_put identity a.parcels.items w ≡ count_back identity a.notes.items w + slice_index a.core.out w
