-- Words on the job of a worker.
use Rattle.std.specs.Prelude.{ℕ}
use Rattle.std.specs.declared.alloc.Global.{Global}
use Rattle.rtrb.specs.declared.AnyItems.{AnyItems}
use Rattle.rtrb.specs.declared.consumer.Consumer.{Consumer}
use Rattle.rtrb.specs.declared.producer.Producer.{Producer}
use Rattle.server_jobs.specs.declared.note.Note.{Note}
use Rattle.server_jobs.specs.declared.parcel.Parcel.{Parcel}
use Rattle.worker_job.specs.declared.worker_job.WorkerJob.{WorkerJob}

module _ {L F : Type 0} where
  -- its end of the ring to it, as it was given
  abbrev pub parcels_of : WorkerJob L F → Consumer (Parcel L) Global AnyItems
  parcels_of job = job.parcels

  -- its end of the ring back, as it was given
  abbrev pub notes_of : WorkerJob L F → Producer (Note L) Global AnyItems
  notes_of job = job.notes

  abbrev pub factory_of : WorkerJob L F → F
  factory_of job = job.factory

  -- for how many listeners it makes services
  abbrev pub listeners_of : WorkerJob L F → ℕ
  listeners_of job = job.listeners
