-- What the notes of a worker tell.
use Rattle.std.specs.Prelude.{◌≡◌, ◌⊎◌, ◌∷◌, [], ⊤, ℕ, Bool, List, Option, None, true, sum_by, slice_get}
use Rattle.std.specs.Option.{option_map_or}
use Rattle.rtrb.specs.Ring.{received}
use Rattle.rtrb.specs.declared.consumer.Consumer.{Consumer}
use Rattle.service_core.specs.Link.{Identity}
use Rattle.server_jobs.specs.Cards.{of_note}
use Rattle.server_jobs.specs.declared.note.Note.{Note}
use Rattle.server_jobs.specs.declared.note.Note.TheVariants.{Ready, Back, Faulted}
use Rattle.server_run.specs.Outcome.{is_stopped}

-- how many connections the worker w handed back
abbrev pub count_back : {L A P : Type 0} → (L → Identity) → List (Consumer (Note L) A P) → ℕ → ℕ
count_back identity consumers w = option_map_or (λ c. sum_by (of_note identity (λ x. 1)) (received c)) (slice_get consumers w) 0

-- the first note is a connection
abbrev pub IsBackFirst : {L : Type 0} → List (Note L) → Type 0
IsBackFirst [] = ⊥
IsBackFirst (Ready ∷ notes) = ⊥
IsBackFirst (Back e ∷ notes) = ⊤
IsBackFirst (Faulted ∷ notes) = ⊥

-- the first note is a connection that was stopped
abbrev pub IsStoppedFirst : {L : Type 0} → List (Note L) → Type 0
IsStoppedFirst [] = ⊥
IsStoppedFirst (Ready ∷ notes) = ⊥
IsStoppedFirst (Back e ∷ notes) = is_stopped e.outcome ≡ true
IsStoppedFirst (Faulted ∷ notes) = ⊥

-- No note is known that may be taken, where so many are out and a stop came so: a connection comes back only where one is out, and one
-- that was stopped only after a stop.
abbrev pub AreLeft : {L : Type 0} → ℕ → Option Bool → List (Note L) → Type 0
AreLeft out stopping notes = (notes ≡ []) ⊎ (((out ≡ 0) × IsBackFirst notes) ⊎ ((stopping ≡ None) × IsStoppedFirst notes))
