-- Accounts, one behind the other.
use Rattle.std.proofs.Common.{◌∙◌, arith}
use Rattle.service_core.specs.Link.{Identity}
use Rattle.server_worker.specs.Holding.{Accounts}
use Rattle.server_worker.specs.declared.connections.Connections.{Connections}

pub accounts_trans : {L Fut : Type 0} {identity : L → Identity} {a b c : Connections L Fut} → Accounts identity a b → Accounts identity b c → Accounts identity a c
accounts_trans p q = record {
  parcels = ((q.parcels.0.0 ∙ p.parcels.0.0, q.parcels.0.1 ∙ p.parcels.0.1, q.parcels.0.2 ∙ p.parcels.0.2, q.parcels.0.3 ∙ p.parcels.0.3), q.parcels.1 ∙ p.parcels.1);
  notes = ((q.notes.0.0 ∙ p.notes.0.0, q.notes.0.1 ∙ p.notes.0.1, q.notes.0.2 ∙ p.notes.0.2, q.notes.0.3 ∙ p.notes.0.3), q.notes.1 ∙ p.notes.1);
  spares = λ free. q.spares (p.spares free);
  once = λ h. omega (arith, p.once h, q.once h);
}
