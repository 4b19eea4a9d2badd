-- That those live connections are polled once that are due, and the others rest.
use Rattle.std.specs.Prelude.{◌≡◌, ◌≤◌, ℕ, ◌+◌, true, [], Bool, List, All, sum_by, Result}
use Rattle.std.specs.List.Sorted.{IsPermutation}
use Rattle.futures.specs.declared.future.Future.{Ghosts as FutureOf}
use Rattle.rtrb.specs.Ring.{received}
use Rattle.service_core.specs.Counts.{risen}
use Rattle.service_core.specs.Link.{Identity}
use Rattle.service_core.specs.declared.ended.Ended.{Ended}
use Rattle.server_jobs.specs.Cards.{Card, of_note, of_parcel}
use Rattle.server_jobs.specs.declared.note.Note.{Note}
use Rattle.server_worker.specs.Polled.{as_it_is, handed, queued}
use Rattle.server_worker.specs.Sound.{IsSound}
use Rattle.server_worker.specs.Telling.{WeighsNoEnd}
use Rattle.server_worker.specs.Waited.{HasWaited, IsUnheard}
use Rattle.server_worker.specs.declared.connections.Connections.{Connections}
use Rattle.server_worker.specs.declared.live.Live.{Live}

-- The live connections stand in another order, each as it was, and nothing else changed.
pub record IsMoved {L Fut : Type 0} (a b : Connections L Fut) : Type 0 where
  pub live : IsPermutation a.live.items b.live.items
  pub parcels : b.parcels ≡ a.parcels
  pub notes : b.notes ≡ a.notes
  pub queue : b.queue ≡ a.queue
  pub strays : b.strays ≡ a.strays
  pub owed : b.owed ≡ a.owed
  pub stopped : b.stopped ≡ a.stopped
  pub forced : b.forced ≡ a.forced
  pub told_ready : b.told ≡ a.told

-- Each live connection was polled once, or rested: one that rested had waited, there was no news of the slot for which it waits, and it is as it was. Where every one was to be polled, none rested.
pub record PolledDue {L E Fut : Type 0} (g : FutureOf Fut (Result (Ended L) E)) (may_stand : Fut → L → Type 0) (may_serve : ℕ → L → Ended L → Type 0) (may_leave : ℕ → L → L → Type 0)
    (may_make : ℕ → Type 0) (listeners : ℕ) (identity : L → Identity) (every : Bool) (news : List ℕ) (a b : Connections L Fut) : Type 0 where
  pub sound : IsSound g may_stand may_serve may_leave may_make listeners b
  -- each with the count of its waits before
  pub polled : List (Card × ℕ)
  pub rested : List (Live L Fut)
  -- each with the count of its waits then
  pub ended : List (Card × ℕ)
  pub split : (h : Card → ℕ → ℕ) → sum_by (λ e. h e.0 e.1) polled + sum_by (as_it_is identity h) rested ≡ sum_by (as_it_is identity h) a.live.items
  pub once : (h : Card → ℕ → ℕ) → sum_by (λ e. h e.0 (risen e.1)) polled + sum_by (as_it_is identity h) rested ≡ sum_by (as_it_is identity h) b.live.items + sum_by (λ e. h e.0 e.1) ended
  pub waited : All HasWaited rested
  pub unheard : All (IsUnheard news) rested
  pub stayed : (f : Live L Fut → ℕ) → sum_by f rested ≤ sum_by f b.live.items
  pub all : every ≡ true → rested ≡ []
  pub told : (h : Card → ℕ) → sum_by (of_note identity h) a.owed.items + sum_by (λ e. h e.0) ended ≡ sum_by (of_note identity h) b.owed.items
  pub signals : (f : Note L → ℕ) → WeighsNoEnd f → sum_by f b.owed.items ≡ sum_by f a.owed.items
  pub parcels : b.parcels ≡ a.parcels
  pub notes : b.notes ≡ a.notes
  pub queue : b.queue ≡ a.queue
  pub strays : b.strays ≡ a.strays
  pub stopped : b.stopped ≡ a.stopped
  pub forced : b.forced ≡ a.forced
  pub told_ready : b.told ≡ a.told

-- Each connection that was live at the start, or was admitted, was polled once and is live or has ended, or rested. One that rested had waited, so none that was admitted did; there was no news of the slot for which it waits, and it is live, as it was.
pub record PollsDue {L Fut : Type 0} (identity : L → Identity) (news : List ℕ) (a b : Connections L Fut) : Type 0 where
  pub admitted : List Card
  -- each with the count of its waits before
  pub polled : List (Card × ℕ)
  pub rested : List (Live L Fut)
  -- those that ended, each with the count of its waits then
  pub ended : List (Card × ℕ)
  pub split : (h : Card → ℕ → ℕ) → sum_by (λ e. h e.0 e.1) polled + sum_by (as_it_is identity h) rested ≡ sum_by (as_it_is identity h) a.live.items + sum_by (λ c. h c 0) admitted
  pub once : (h : Card → ℕ → ℕ) → sum_by (λ e. h e.0 (risen e.1)) polled + sum_by (as_it_is identity h) rested ≡ sum_by (as_it_is identity h) b.live.items + sum_by (λ e. h e.0 e.1) ended
  pub waited : All HasWaited rested
  pub unheard : All (IsUnheard news) rested
  pub stayed : (f : Live L Fut → ℕ) → sum_by f rested ≤ sum_by f b.live.items
  -- what was admitted was queued, or came from the ring
  pub came : (h : Card → ℕ) → (sum_by (of_parcel identity h) (received a.parcels) + queued identity h b) + sum_by h admitted
      ≤ sum_by (of_parcel identity h) (received b.parcels) + queued identity h a
  -- what ended is handed back, or kept for handing back
  pub told : (h : Card → ℕ) → handed identity h a + sum_by (λ e. h e.0) ended ≤ handed identity h b
