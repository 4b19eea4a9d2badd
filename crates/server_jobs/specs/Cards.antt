-- Connections as every thread knows them, weighed. Two lists hold the same connections, each as often, where they weigh the same
-- however connections are weighed.
use Rattle.std.specs.Prelude.{ℕ}
use Rattle.service_core.specs.Link.{Identity}
use Rattle.server_run.specs.declared.entry.Entry.{Entry}
use Rattle.server_jobs.specs.declared.note.Note.{Note}
use Rattle.server_jobs.specs.declared.note.Note.TheVariants.{Ready, Back, Faulted}
use Rattle.server_jobs.specs.declared.parcel.Parcel.{Parcel}
use Rattle.server_jobs.specs.declared.parcel.Parcel.TheVariants.{Conn, Stop}
use Rattle.server_jobs.specs.declared.waiting.Waiting.{Waiting}

-- a connection: its numbers, and what never changes of its link
pub record Card : Type 0 where
  pub serial : ℕ
  pub token : ℕ
  pub place : ℕ
  pub identity : Identity

abbrev pub card : ℕ → ℕ → ℕ → Identity → Card
card serial token place identity = record { serial = serial; token = token; place = place; identity = identity }

module _ {L : Type 0} (identity : L → Identity) (h : Card → ℕ) where
  abbrev pub of_parcel : Parcel L → ℕ
  of_parcel (Conn serial token place link) = h (card serial token place (identity link))
  of_parcel (Stop graceful) = 0

  abbrev pub of_entry : Entry L → ℕ
  of_entry e = h (card e.serial e.token e.place (identity e.link))

  abbrev pub of_note : Note L → ℕ
  of_note Ready = 0
  of_note (Back e) = of_entry e
  of_note Faulted = 0

  abbrev pub of_waiting : Waiting L → ℕ
  of_waiting w = h (card w.serial w.token w.place (identity w.link))
