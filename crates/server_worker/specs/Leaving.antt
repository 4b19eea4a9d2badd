-- How a worker ends, and hands over what it has.
use Rattle.std.specs.Prelude.{◌≡◌, ◌⊎◌, ◌++◌, ℕ, ◌+◌, List, All, Contains, sum_by}
use Rattle.rtrb.specs.Ring.{received}
use Rattle.service_core.specs.Link.{Identity}
use Rattle.service_core.specs.declared.ended.Ended.{Ended}
use Rattle.server_jobs.specs.Cards.{Card, of_waiting}
use Rattle.server_jobs.specs.declared.handed.Handed.{Handed}
use Rattle.server_jobs.specs.declared.parcel.Parcel.{Parcel}
use Rattle.server_jobs.specs.declared.parcel.Parcel.TheVariants.{Conn}
use Rattle.server_jobs.specs.declared.waiting.Waiting.{Waiting}
use Rattle.server_worker.specs.Holding.{Accounts, of_live}
use Rattle.server_worker.specs.Sound.{Tells}
use Rattle.server_worker.specs.Taken.{Receives}
use Rattle.server_worker.specs.declared.connections.Connections.{Connections}

-- A connection that has not ended came, and its link is as it came, or as the future of its service hands it back.
pub record HasStayed {L : Type 0} (identity : L → Identity) (may_leave : ℕ → L → L → Type 0) (parcels : List (Parcel L)) (w : Waiting L) : Type 0 where
  -- the link as it came
  pub link : L
  pub came : Contains parcels (Conn w.serial w.token w.place link)
  pub same : identity w.link ≡ identity link
  pub stands : (w.link ≡ link) ⊎ may_leave w.token link w.link

-- From a to b turns were made: more was received, each connection that came is accounted for, and what was told is true.
pub record Runs {L Fut : Type 0} (identity : L → Identity) (may_serve : ℕ → L → Ended L → Type 0) (may_leave : ℕ → L → L → Type 0) (may_make : ℕ → Type 0) (listeners : ℕ)
    (a b : Connections L Fut) : Type 0 where
  pub accounts : Accounts identity a b
  pub receives : Receives a b
  pub tells : Tells may_serve may_leave may_make listeners a b

-- what has not ended: queued, of no listener, or live
abbrev pub not_ended : {L Fut : Type 0} → (L → Identity) → (Card → ℕ) → Connections L Fut → ℕ
not_ended identity h w = (sum_by (of_waiting identity h) w.queue.items + sum_by (of_waiting identity h) w.strays.items) + sum_by (of_live identity h) w.live.items

-- Those that wait go behind the strays, from the front of the queue on.
pub record Unqueues {L Fut : Type 0} (a b : Connections L Fut) : Type 0 where
  pub waiting : b.strays.items ++ b.queue.items ≡ a.strays.items ++ a.queue.items
  pub live : b.live ≡ a.live
  pub parcels : b.parcels ≡ a.parcels
  pub notes : b.notes ≡ a.notes
  pub owed : b.owed ≡ a.owed

-- What had not ended goes to the strays, each once, and stands there.
pub record Gathers {L Fut : Type 0} (identity : L → Identity) (may_leave : ℕ → L → L → Type 0) (a b : Connections L Fut) : Type 0 where
  pub parcels : b.parcels ≡ a.parcels
  pub notes : b.notes ≡ a.notes
  pub owed : b.owed ≡ a.owed
  pub once : (h : Card → ℕ) → not_ended identity h b ≡ not_ended identity h a
  pub stayed : All (HasStayed identity may_leave (received a.parcels)) b.strays.items

-- It handed over its ends of the rings, the notes that it owed, and what had not ended, each once.
pub record Leaves {L Fut F D : Type 0} (identity : L → Identity) (may_leave : ℕ → L → L → Type 0) (a : Connections L Fut) (out : Handed L F D) : Type 0 where
  pub parcels : out.parcels ≡ a.parcels
  pub notes : out.notes ≡ a.notes
  pub owed : out.owed.items ≡ a.owed.items
  pub once : (h : Card → ℕ) → sum_by (of_waiting identity h) out.rest.items ≡ not_ended identity h a
  pub stayed : All (HasStayed identity may_leave (received a.parcels)) out.rest.items
