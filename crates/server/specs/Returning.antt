-- What comes back of connections when their workers are joined.
use Rattle.std.specs.Prelude.{◌≡◌, ◌++◌, ◌∷◌, [], ℕ, ◌+◌, List, All, None, Option, Some, sum_by}
use Rattle.rtrb.specs.Ring.{received, sent}
use Rattle.service_core.specs.Link.{Identity}
use Rattle.service_core.specs.declared.ended.Ended.{Ended}
use Rattle.server_run.specs.declared.entry.Entry.{Entry}
use Rattle.server_jobs.specs.Cards.{Card, of_entry, of_note, of_parcel}
use Rattle.server_jobs.specs.Returning.{HandsOn, brought_back}
use Rattle.server_jobs.specs.declared.handed.Handed.{Handed}
use Rattle.server_jobs.specs.declared.line.Line.{Line}
use Rattle.server_jobs.specs.declared.running.Running.{Running}
use Rattle.server.specs.Joining.{IsJoined}
use Rattle.server.specs.Rows.{Row, line_of}
use Rattle.server.specs.Tales.{IsFrom, IsTale}

-- how many connections were put on the ring of a worker, and how many came back from it
abbrev pub many_put : {L J O : Type 0} → (L → Identity) → Row L J O → ℕ
many_put identity row = sum_by (of_parcel identity (λ c. 1)) (sent row.parcels)

abbrev pub many_back : {L J O : Type 0} → (L → Identity) → Row L J O → ℕ
many_back identity row = sum_by (of_note identity (λ c. 1)) (received row.notes)

-- the line of a worker was joined, and what its join brought back was handed on
pub record Returned {L F D J O T : Type 0} (identity : L → Identity) (promise : J → O → Type 0) (handed : O → Handed L F D)
    (taken : T → Option (List (Entry L))) (count served spare : T → ℕ) (worker : ℕ) (line : Line L J O) (old new : T) : Type 0 where
  pub joined : IsJoined identity promise handed line
  pub hands : HandsOn taken count served spare old new (brought_back worker joined.joined)

-- what the join of the worker with this number brought back: nothing where none runs
abbrev pub Brings : {L F D J O : Type 0} → (L → Identity) → (J → O → Type 0) → (O → Handed L F D) → ℕ → Row L J O → Option (Running J O) → List (Entry L) → Type 0
Brings identity promise handed worker row None entries = entries ≡ []
Brings identity promise handed worker row (Some r) entries = (it : IsJoined identity promise handed (line_of row.parcels row.notes r)) × (entries ≡ brought_back worker it.joined)

-- Workers from this number on were joined, the last one first, and these entries are what their joins brought back.
abbrev pub BringBack : {L F D J O : Type 0} → (L → Identity) → (J → O → Type 0) → (O → Handed L F D) → ℕ → List (Row L J O) → List (Entry L) → Type 0
BringBack identity promise handed worker [] entries = entries ≡ []
BringBack {L = L} identity promise handed worker (row ∷ rows) entries =
    (before : List (Entry L)) × BringBack identity promise handed (worker + 1) rows before
    × (here : List (Entry L)) × Brings identity promise handed worker row row.running here × (entries ≡ before ++ here)

-- All workers were joined, and what their joins brought back was handed on.
pub record ReturnsBy {L F D J O T : Type 0} (identity : L → Identity) (promise : J → O → Type 0) (handed : O → Handed L F D)
    (taken : T → Option (List (Entry L))) (count served spare : T → ℕ) (rows : List (Row L J O)) (old new : T) : Type 0 where
  pub entries : List (Entry L)
  pub brought : BringBack identity promise handed 0 rows entries
  pub hands : HandsOn taken count served spare old new entries

-- Of a worker: what was put on its ring is what its notes handed back and what its join brought back, each once; and both are true.
pub record ReturnsAll {L J O : Type 0} (identity : L → Identity) (workers : ℕ) (may_fault : Type 0) (may_serve : ℕ → L → Ended L → Type 0) (may_leave : ℕ → L → L → Type 0) (may_make : ℕ → Type 0) (listeners : ℕ) (row : Row L J O) (back : List (Entry L)) : Type 0 where
  pub once : (h : Card → ℕ) → sum_by (of_parcel identity h) (sent row.parcels) ≡ sum_by (of_note identity h) (received row.notes) + sum_by (of_entry identity h) back
  pub told : All (IsTale workers may_fault may_serve may_leave may_make listeners (sent row.parcels)) (received row.notes)
  pub brought : All (IsFrom workers may_fault may_serve may_leave (sent row.parcels)) back
