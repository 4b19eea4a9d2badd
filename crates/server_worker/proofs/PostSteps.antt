-- Postings, one behind the other.
use Rattle.std.proofs.Common.{◌++◌, [], refl, sym, ◌∙◌, ap, append_assoc}
use Rattle.std.proofs.lemmas.List.{append-nil}
use Rattle.server_worker.specs.Posted.{Posts}
use Rattle.server_worker.specs.declared.connections.Connections.{Connections}

pub posts_none : {L Fut : Type 0} (a : Connections L Fut) → Posts a a
posts_none a = record {
  more = [];
  appended = sym (append-nil _);
  kept = refl;
  notes = ((refl, refl, refl, refl), refl);
  spares = λ free. free;
  parcels = refl;
  queue = refl;
  strays = refl;
  live = refl;
  stopped = refl;
  forced = refl;
  told_ready = refl;
}

pub posts_trans : {L Fut : Type 0} {a b c : Connections L Fut} → Posts a b → Posts b c → Posts a c
posts_trans p q = record {
  more = p.more ++ q.more;
  appended = q.appended ∙ ap (λ xs. xs ++ q.more) p.appended ∙ append_assoc _ p.more q.more;
  kept = p.kept ∙ ap (λ xs. p.more ++ xs) q.kept ∙ sym (append_assoc p.more q.more _);
  notes = ((q.notes.0.0 ∙ p.notes.0.0, q.notes.0.1 ∙ p.notes.0.1, q.notes.0.2 ∙ p.notes.0.2, q.notes.0.3 ∙ p.notes.0.3), q.notes.1 ∙ p.notes.1);
  spares = λ free. q.spares (p.spares free);
  parcels = q.parcels ∙ p.parcels;
  queue = q.queue ∙ p.queue;
  strays = q.strays ∙ p.strays;
  live = q.live ∙ p.live;
  stopped = q.stopped ∙ p.stopped;
  forced = q.forced ∙ p.forced;
  told_ready = q.told_ready ∙ p.told_ready;
}
