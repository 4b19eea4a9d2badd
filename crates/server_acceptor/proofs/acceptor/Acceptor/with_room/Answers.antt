use Rattle.std.proofs.Common.{◌≡◌, ◌^◌, ◌<◌, ℕ, length, arith, refl, sym, ◌∙◌, ap, subst}
use Rattle.std.specs.Prelude.{slice_index_or, sum, vec_len}
use Rattle.std.specs.Global.{Vec}
use Rattle.server_core.specs.Core.{Core, fresh}
use Rattle.server_acceptor.proofs.NewSteps.{new_patient, new_ruled, new_small, new_sum}
use Rattle.server_acceptor.proofs.PlaceSteps.{IsPatient, IsRuled}
use Rattle.server_acceptor.proofs.Sendings.{are_sent_none}
use Rattle.server_jobs.specs.Parcels.{is_force, is_stop}
use Rattle.server_acceptor.proofs.acceptor.Acceptor.with_room.Goals as goal

len_is : {X : Type 0} (v : Vec X) → vec_len v ≡ length v.items
len_is v = omega (arith, v.ok.0)

pub invariant_of-result-clause-small : goal.invariant_of-result-clause-small
invariant_of-result-clause-small g c = subst (λ xs. (t : ℕ) → slice_index_or xs t 0 < 2 ^ 48) (sym c.requires.room.places) (new_small c.args.listeners)

pub invariant_of-result-clause-placed : goal.invariant_of-result-clause-placed
invariant_of-result-clause-placed g c = new_sum c.args.listeners ∙ ap (λ xs. sum xs) (sym c.requires.room.places)

pub invariant_of-result-clause-patient : goal.invariant_of-result-clause-patient
invariant_of-result-clause-patient g c = subst (λ (s : Core). IsPatient s c.args.retry_limit) (sym c.new-core.ensures.value) (new_patient c.len.result c.args.listeners c.args.retry_limit c.requires.some_failures)

pub invariant_of-result-clause-rule : goal.invariant_of-result-clause-rule
invariant_of-result-clause-rule g c = subst (λ (s : Core). IsRuled s c.args.limit) (sym c.new-core.ensures.value) (new_ruled _ c.args.listeners c.args.limit c.requires.some_connections)

pub invariant_of-result-clause-forced_sent : goal.invariant_of-result-clause-forced_sent
invariant_of-result-clause-forced_sent g c = are_sent_none c.args.parcels.items is_force _ _ c.requires.room.forced

pub invariant_of-result-clause-stopped_sent : goal.invariant_of-result-clause-stopped_sent
invariant_of-result-clause-stopped_sent g c = are_sent_none c.args.parcels.items is_stop _ _ c.requires.room.stopped

pub returns : goal.returns
returns g c =
    let r = c.requires.room in
    record {
      core = c.new-core.ensures.value ∙ ap (λ n. fresh n c.args.listeners) (c.len.ensures ∙ len_is c.args.parcels);
      events = r.events.0;
      producers = refl;
      consumers = refl;
      ready = r.ready;
      stopped = r.stopped;
      forced = r.forced;
      stop = refl;
      waiting = refl;
      serial = refl;
      places = r.places;
      failed = r.failed;
      first = refl;
      room = refl;
      same_limit = refl;
      same_retry_limit = refl;
      same_timeout = refl;
    }
