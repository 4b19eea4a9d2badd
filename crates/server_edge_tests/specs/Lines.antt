-- What sending and taking leave of a line.
use Rattle.std.specs.Prelude.{◌≡◌}
use Rattle.rtrb.specs.Ring.{SameConsumer, SameProducer}
use Rattle.server_jobs.specs.declared.line.Line.{Line}

-- the same ends of the same rings, and the same job
pub record KeepsLine {L J O : Type 0} (a b : Line L J O) : Type 0 where
  pub to_it : SameProducer a.parcels b.parcels
  pub from_it : SameConsumer a.notes b.notes
  pub running : b.running ≡ a.running
