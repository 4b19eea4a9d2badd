-- That each live connection is polled once.
use Rattle.std.specs.Prelude.{◌≡◌, ◌≤◌, ℕ, ◌+◌, true, List, sum_by, take, drop, length, Result}
use Rattle.futures.specs.declared.future.Future.{Ghosts as FutureOf}
use Rattle.service_core.specs.declared.ended.Ended.{Ended}
use Rattle.server_worker.specs.Sound.{IsSound}
use Rattle.service_core.specs.Counts.{risen}
use Rattle.service_core.specs.Link.{Identity}
use Rattle.service_core.specs.Shown.{wait_count}
use Rattle.server_jobs.specs.Cards.{Card, card, of_note, of_parcel, of_waiting}
use Rattle.server_jobs.specs.declared.note.Note.{Note}
use Rattle.server_worker.specs.Telling.{WeighsNoEnd, newly}
use Rattle.server_worker.specs.declared.connections.Connections.{Connections}
use Rattle.rtrb.specs.Ring.{received, sent}
use Rattle.server_worker.specs.declared.live.Live.{Live}

abbrev pub card_of : {L Fut : Type 0} → (L → Identity) → Live L Fut → Card
card_of identity c = card c.serial c.token c.place (identity c.given.value)

module _ {L Fut : Type 0} (identity : L → Identity) where
  -- the weight of a live connection with the count of its waits
  abbrev pub as_it_is : (Card → ℕ → ℕ) → Live L Fut → ℕ
  as_it_is h c = h (card_of identity c) (wait_count c.future)

  -- the same, with that count one higher
  abbrev pub once_polled : (Card → ℕ → ℕ) → Live L Fut → ℕ
  once_polled h c = h (card_of identity c) (risen (wait_count c.future))

-- how far the polling has come: those from the place on were polled
pub record PolledFrom {L E Fut : Type 0} (g : FutureOf Fut (Result (Ended L) E)) (may_stand : Fut → L → Type 0) (may_serve : ℕ → L → Ended L → Type 0) (may_leave : ℕ → L → L → Type 0)
    (may_make : ℕ → Type 0) (listeners : ℕ) (identity : L → Identity) (a b : Connections L Fut) (at : ℕ) : Type 0 where
  pub sound : IsSound g may_stand may_serve may_leave may_make listeners b
  pub within : at ≤ length b.live.items
  pub ended : List (Card × ℕ)
  pub once : (h : Card → ℕ → ℕ) → sum_by (once_polled identity h) (take at b.live.items) + (sum_by (as_it_is identity h) (drop at b.live.items) + sum_by (λ e. h e.0 e.1) ended)
      ≡ sum_by (once_polled identity h) a.live.items
  pub told : (h : Card → ℕ) → sum_by (of_note identity h) a.owed.items + sum_by (λ e. h e.0) ended ≡ sum_by (of_note identity h) b.owed.items
  pub signals : (f : Note L → ℕ) → WeighsNoEnd f → sum_by f b.owed.items ≡ sum_by f a.owed.items
  pub parcels : b.parcels ≡ a.parcels
  pub notes : b.notes ≡ a.notes
  pub queue : b.queue ≡ a.queue
  pub strays : b.strays ≡ a.strays
  pub stopped : b.stopped ≡ a.stopped
  pub forced : b.forced ≡ a.forced
  pub told_ready : b.told ≡ a.told

-- Connections went from the queue to the live ones, each once, and none of them was polled yet.
pub record Admits {L Fut : Type 0} (identity : L → Identity) (a b : Connections L Fut) : Type 0 where
  pub admitted : List Card
  pub live : (h : Card → ℕ → ℕ) → sum_by (as_it_is identity h) b.live.items ≡ sum_by (as_it_is identity h) a.live.items + sum_by (λ c. h c 0) admitted
  pub queue : (h : Card → ℕ) → sum_by (of_waiting identity h) b.queue.items + sum_by h admitted ≡ sum_by (of_waiting identity h) a.queue.items
  pub parcels : b.parcels ≡ a.parcels
  pub notes : b.notes ≡ a.notes
  pub strays : b.strays ≡ a.strays
  pub owed : b.owed ≡ a.owed
  pub stopped : b.stopped ≡ a.stopped
  pub forced : b.forced ≡ a.forced
  pub told_ready : b.told ≡ a.told

-- what a worker has in its queue, its strays among it, and what it told or is to tell
abbrev pub queued : {L Fut : Type 0} → (L → Identity) → (Card → ℕ) → Connections L Fut → ℕ
queued identity h w = sum_by (of_waiting identity h) w.queue.items + sum_by (of_waiting identity h) w.strays.items

abbrev pub handed : {L Fut : Type 0} → (L → Identity) → (Card → ℕ) → Connections L Fut → ℕ
handed identity h w = sum_by (of_note identity h) (sent w.notes) + sum_by (of_note identity h) w.owed.items

-- Each connection that was live at the start, or was admitted, is live with its count one higher, or has ended.
pub record PollsLive {L Fut : Type 0} (identity : L → Identity) (a b : Connections L Fut) : Type 0 where
  pub admitted : List Card
  -- those that ended, each with its count one higher
  pub ended : List (Card × ℕ)
  pub once : (h : Card → ℕ → ℕ) → sum_by (once_polled identity h) a.live.items + sum_by (λ c. h c 1) admitted
      ≡ sum_by (as_it_is identity h) b.live.items + sum_by (λ e. h e.0 e.1) ended
  -- what was admitted was queued, or came from the ring
  pub came : (h : Card → ℕ) → (sum_by (of_parcel identity h) (received a.parcels) + queued identity h b) + sum_by h admitted
      ≤ sum_by (of_parcel identity h) (received b.parcels) + queued identity h a
  -- what ended is handed back, or kept for handing back
  pub told : (h : Card → ℕ) → handed identity h a + sum_by (λ e. h e.0) ended ≤ handed identity h b

-- This note, which hands no connection back, was added to what is owed, or none.
pub record OwesMore {L Fut : Type 0} (identity : L → Identity) (note : Note L) (a b : Connections L Fut) : Type 0 where
  pub once : (h : Card → ℕ) → sum_by (of_note identity h) b.owed.items ≡ sum_by (of_note identity h) a.owed.items
  pub signals : (f : Note L → ℕ) → sum_by f b.owed.items ≡ sum_by f a.owed.items + newly (f note) a.told b.told
  pub told_ready : a.told ≡ true → b.told ≡ true
  pub parcels : b.parcels ≡ a.parcels
  pub notes : b.notes ≡ a.notes
  pub queue : b.queue ≡ a.queue
  pub strays : b.strays ≡ a.strays
  pub live : b.live ≡ a.live
  pub stopped : b.stopped ≡ a.stopped
  pub forced : b.forced ≡ a.forced
