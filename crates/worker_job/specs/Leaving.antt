-- How a job tells its last note, and how one ends for which there was no worker.
use Rattle.std.specs.Prelude.{◌≡◌, ◌∷◌, ◌++◌, []}
use Rattle.rtrb.specs.Ring.{sent, SameProducer}
use Rattle.server_jobs.specs.declared.handed.Handed.{Handed}
use Rattle.server_jobs.specs.declared.note.Note.TheVariants.{Faulted}
use Rattle.server_worker.specs.declared.worker_parts.WorkerParts.{WorkerParts}
use Rattle.worker_job.specs.Promise.{last_notes}
use Rattle.worker_job.specs.declared.departure.Departure.{Departure}
use Rattle.worker_job.specs.declared.departure.Departure.TheVariants.{Memory}

-- what is handed over stays as it was, but for the last note, which was sent where the worker ended by a fault
pub record TellsLast {L F E I : Type 0} (a b : Handed L F (Departure E I)) : Type 0 where
  pub parcels : b.parcels ≡ a.parcels
  pub notes : SameProducer a.notes b.notes
  pub told : sent b.notes ≡ sent a.notes ++ last_notes a.departure
  pub same_factory : b.factory ≡ a.factory
  pub owed : b.owed ≡ a.owed
  pub rest : b.rest ≡ a.rest
  pub departure : b.departure ≡ a.departure

-- The parts of a worker are handed over, and a note of its fault was sent.
pub record GivesUp {L F E I : Type 0} (parts : WorkerParts L F) (out : Handed L F (Departure E I)) : Type 0 where
  pub parcels : out.parcels ≡ parts.parcels
  pub notes : SameProducer parts.notes out.notes
  pub told : sent out.notes ≡ sent parts.notes ++ Faulted ∷ []
  pub same_factory : out.factory ≡ parts.factory
  pub owed : out.owed.items ≡ []
  pub rest : out.rest.items ≡ []
  pub departure : out.departure ≡ Memory
