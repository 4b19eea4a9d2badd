-- The workers, of which the acceptor has the ends of the rings in two lists.
use Rattle.std.specs.Prelude.{◌∷◌, [], List, Option, None, Some}
use Rattle.std.specs.declared.alloc.Global.{Global}
use Rattle.rtrb.specs.declared.AnyItems.{AnyItems}
use Rattle.rtrb.specs.declared.consumer.Consumer.{Consumer}
use Rattle.rtrb.specs.declared.producer.Producer.{Producer}
use Rattle.server_jobs.specs.declared.line.Line.{Line}
use Rattle.server_jobs.specs.declared.note.Note.{Note}
use Rattle.server_jobs.specs.declared.parcel.Parcel.{Parcel}
use Rattle.server_jobs.specs.declared.running.Running.{Running}

-- The ends of a worker's rings beside its job. One that is retired has none.
pub record Row (L J O : Type 0) : Type 0 where
  pub parcels : Producer (Parcel L) Global AnyItems
  pub notes : Consumer (Note L) Global AnyItems
  pub running : Option (Running J O)

abbrev pub row_of : {L J O : Type 0} → Producer (Parcel L) Global AnyItems → Consumer (Note L) Global AnyItems → Option (Running J O) → Row L J O
row_of p n r = record { parcels = p; notes = n; running = r }

abbrev pub line_of : {L J O : Type 0} → Producer (Parcel L) Global AnyItems → Consumer (Note L) Global AnyItems → Running J O → Line L J O
line_of p n r = record { parcels = p; notes = n; running = r }

-- each worker's
abbrev pub rows_of : {L J O : Type 0} → List (Producer (Parcel L) Global AnyItems) → List (Consumer (Note L) Global AnyItems) → List (Option (Running J O)) → List (Row L J O)
rows_of [] ns rs = []
rows_of (p ∷ ps) [] rs = []
rows_of (p ∷ ps) (n ∷ ns) [] = []
rows_of (p ∷ ps) (n ∷ ns) (r ∷ rs) = row_of p n r ∷ rows_of ps ns rs

-- a fact of a worker's line where its job runs, or else another one of its ends
abbrev pub by_job : {L J O : Type 0} → (Line L J O → Type 0) → (Producer (Parcel L) Global AnyItems → Consumer (Note L) Global AnyItems → Type 0)
    → Producer (Parcel L) Global AnyItems → Consumer (Note L) Global AnyItems → Option (Running J O) → Type 0
by_job runs retired p n (Some r) = runs (line_of p n r)
by_job runs retired p n None = retired p n

abbrev pub ByJob : {L J O : Type 0} → (Line L J O → Type 0) → (Producer (Parcel L) Global AnyItems → Consumer (Note L) Global AnyItems → Type 0) → Row L J O → Type 0
ByJob runs retired row = by_job runs retired row.parcels row.notes row.running
