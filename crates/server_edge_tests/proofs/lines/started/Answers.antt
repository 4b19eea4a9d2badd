use Rattle.std.proofs.Common.{sum_by, sym, ◌∙◌, ap}
use Rattle.server_jobs.specs.Cards.{of_note, of_parcel}
use Rattle.server_edge_tests.proofs.lines.started.Goals as goal

pub returns-in-Ok : goal.returns-in-Ok
returns-in-Ok g c = record {
  inward = c.in_ok-parcels.inward;
  outward = c.in_ok-outward.outward;
  to_it = c.in_ok-parcels.ensures.pair;
  from_it = c.in_ok-outward.ensures.pair;
  balanced = λ h. ap (sum_by (of_parcel _ h)) c.in_ok-parcels.ensures.consumer.0 ∙ sym (ap (sum_by (of_note _ h)) c.in_ok-outward.ensures.producer.0);
  accounts = λ out promised. rw c.in-Ok.ensures.job at promised;
}
