use Rattle.std.proofs.Common.{◌<◌, ◌++◌, ◌∷◌, [], sym, ◌∙◌, ap, append_assoc, arith, rules, refl, subst, ◌+◌, nat_lt}
use Rattle.std.specs.Prelude.{slice_index, sum}
use Rattle.std.proofs.Math.ListN.{length-set}
use Rattle.server_core.specs.Core.{Core, step}
use Rattle.server_core.specs.declared.event.Event.TheVariants.{Notice, RingFull}
use Rattle.server_acceptor.proofs.PlaceSteps.{back_again, below_limit, keeps_sent, no_place_at, no_place_other, no_place_still, puts_at, out_fits, patient_kept, ruled_after_sent, ruled_full, sum_higher}
use Rattle.server_acceptor.specs.Placing.{parcel_of}
use Rattle.server_acceptor.proofs.Sendings.{are_sent_kept, are_sent_put}
use Rattle.server_jobs.specs.Parcels.{is_force, is_stop}
use Rattle.server_acceptor.proofs.acceptor.Acceptor.offer.Goals as goal

pub overflow_add-remains : goal.overflow_add-remains
overflow_add-remains g c =
    let small : slice_index c.args.self.now.core.out c.args.w < c.args.self.now.limit = below_limit c.args.self.now.core _ c.args.w c.args.self.now.rule c.requires.in_turn c.requires.free in
    omega (arith, small, c.out.ensures)

pub invariant_of-self-clause-rule : goal.invariant_of-self-clause-rule
invariant_of-self-clause-rule g c = ruled_after_sent c.args.self.now.core _ _ c.args.w _ c.args.self.now.rule c.log.ensures.core (ap (λ n. nat_lt (n + 1) c.args.self.now.limit) c.out.ensures) c.requires.free c.requires.number

pub invariant_of-self-clause-workers : goal.invariant_of-self-clause-workers
invariant_of-self-clause-workers g c =
    let w = c.args.self.now.workers in
    let e = sym c.log.ensures.workers in
    (length-set _ c.args.w c.push.new.self ∙ w.0 ∙ e, w.1 ∙ e, w.2 ∙ e, w.3 ∙ e)

pub invariant_of-self-in-Err-Full-clause-rule : goal.invariant_of-self-in-Err-Full-clause-rule
invariant_of-self-in-Err-Full-clause-rule g c = ruled_full c.args.self.now.core c.log-in-Err-Full-2.new.core _ c.args.w c.args.self.now.rule
    (c.log-in-Err-Full-2.ensures.core ∙ ap (λ s. step s (Notice c.args.w)) c.log-in-Err-Full.ensures.core) c.requires.in_turn c.requires.free

pub invariant_of-self-in-Err-Full-clause-workers : goal.invariant_of-self-in-Err-Full-clause-workers
invariant_of-self-in-Err-Full-clause-workers g c =
    let w = c.args.self.now.workers in
    let e = sym (c.log-in-Err-Full-2.ensures.workers ∙ c.log-in-Err-Full.ensures.workers) in
    (length-set _ c.args.w c.push.new.self ∙ w.0 ∙ e, w.1 ∙ e, w.2 ∙ e, w.3 ∙ e)

pub returns-in-Ok-clause-sent : goal.returns-in-Ok-clause-sent
returns-in-Ok-clause-sent g c = λ _. record {
  stays = record { notes = refl; ready = refl; stopped = refl; forced = refl; stop = refl; serial = refl; places = refl; failed = refl; first = refl; limit = refl; retry_limit = refl; shutdown_timeout = refl; lacks_room = refl };
  waiting = c.take.ensures.after;
  placed = c.in-Some.waiting;
  was = sym c.take.ensures.value ∙ c.in-Some.is;
  rings = puts_at _ c.args.w c.index_mut.result.now c.push.new.self _ (subst (λ n. c.args.w < n) (sym c.args.self.now.workers.0) c.requires.number) c.index_mut.ensures.value c.push.ensures.ring c.in-Ok.ensures.ok.0;
  others = λ v other has. no_place_other _ c.args.w v c.push.new.self other has;
  remains = _;
  core = c.log.ensures.core;
  events = c.log.ensures.events;
}

pub returns-in-Err-Full-clause-refused : goal.returns-in-Err-Full-clause-refused
returns-in-Err-Full-clause-refused g c = λ _. record {
  stays = record { notes = refl; ready = refl; stopped = refl; forced = refl; stop = refl; serial = refl; places = refl; failed = refl; first = refl; limit = refl; retry_limit = refl; shutdown_timeout = refl; lacks_room = refl };
  waiting = c.waiting_of.ensures ∙ back_again _ c.in-Some.waiting c.args.self.now.waiting (search rules) (sym c.take.ensures.value ∙ c.in-Some.is);
  rings = keeps_sent _ c.args.w c.index_mut.result.now c.push.new.self c.index_mut.ensures.value c.push.ensures.ring c.in-Err-Full.ensures.full.1;
  no_place = no_place_at _ c.args.w c.push.new.self (subst (λ n. c.args.w < n) (sym c.args.self.now.workers.0) c.requires.number) c.in-Err-Full.ensures.full.2;
  others = no_place_still _ c.args.w c.push.new.self (subst (λ n. c.args.w < n) (sym c.args.self.now.workers.0) c.requires.number) c.in-Err-Full.ensures.full.2;
  core = c.log-in-Err-Full-2.ensures.core ∙ ap (λ s. step s (Notice c.args.w)) c.log-in-Err-Full.ensures.core;
  events = c.log-in-Err-Full-2.ensures.events ∙ ap (λ es. es ++ Notice c.args.w ∷ []) c.log-in-Err-Full.ensures.events ∙ append_assoc c.args.self.now.events.items (RingFull c.args.w ∷ []) (Notice c.args.w ∷ []);
}

pub invariant_of-self-clause-patient : goal.invariant_of-self-clause-patient
invariant_of-self-clause-patient g c = patient_kept c.args.self.now.core c.log.new.core _ (ap (λ (s : Core). s.ended) c.log.ensures.core) (ap (λ (s : Core). s.failures) c.log.ensures.core) c.args.self.now.patient

pub invariant_of-self-in-Err-Full-clause-patient : goal.invariant_of-self-in-Err-Full-clause-patient
invariant_of-self-in-Err-Full-clause-patient g c =
    let is = c.log-in-Err-Full-2.ensures.core ∙ ap (λ s. step s (Notice c.args.w)) c.log-in-Err-Full.ensures.core in
    patient_kept c.args.self.now.core c.log-in-Err-Full-2.new.core _ (ap (λ (s : Core). s.ended) is) (ap (λ (s : Core). s.failures) is) c.args.self.now.patient

pub invariant_of-self-clause-out_counted : goal.invariant_of-self-clause-out_counted
invariant_of-self-clause-out_counted g c = omega (arith, c.args.self.now.out_counted, sum_higher c.args.self.now.core.out c.args.w c.requires.number, ap (λ (s : Core). sum s.out) c.log.ensures.core)

pub overflow_add-self : goal.overflow_add-self
overflow_add-self g c = omega (arith, c.args.self.now.out_counted, out_fits _ c.log.ensures.kept, sum_higher c.args.self.now.core.out c.args.w c.requires.number, ap (λ (s : Core). sum s.out) c.log.ensures.core)

pub invariant_of-self-clause-forced_sent : goal.invariant_of-self-clause-forced_sent
invariant_of-self-clause-forced_sent g c = are_sent_put c.args.self.now.parcels.items _ is_force c.args.self.now.forced.items c.args.w (parcel_of c.in-Some.waiting)
    (puts_at _ c.args.w c.index_mut.result.now c.push.new.self (parcel_of c.in-Some.waiting) (subst (λ n. c.args.w < n) (sym c.args.self.now.workers.0) c.requires.number) c.index_mut.ensures.value c.push.ensures.ring c.in-Ok.ensures.ok.0) c.args.self.now.forced_sent

pub invariant_of-self-in-Err-Full-clause-forced_sent : goal.invariant_of-self-in-Err-Full-clause-forced_sent
invariant_of-self-in-Err-Full-clause-forced_sent g c = are_sent_kept c.args.self.now.parcels.items _ is_force c.args.self.now.forced.items
    (keeps_sent _ c.args.w c.index_mut.result.now c.push.new.self c.index_mut.ensures.value c.push.ensures.ring c.in-Err-Full.ensures.full.1) c.args.self.now.forced_sent

pub invariant_of-self-clause-stopped_sent : goal.invariant_of-self-clause-stopped_sent
invariant_of-self-clause-stopped_sent g c = are_sent_put c.args.self.now.parcels.items _ is_stop c.args.self.now.stopped.items c.args.w (parcel_of c.in-Some.waiting)
    (puts_at _ c.args.w c.index_mut.result.now c.push.new.self (parcel_of c.in-Some.waiting) (subst (λ n. c.args.w < n) (sym c.args.self.now.workers.0) c.requires.number) c.index_mut.ensures.value c.push.ensures.ring c.in-Ok.ensures.ok.0) c.args.self.now.stopped_sent

pub invariant_of-self-in-Err-Full-clause-stopped_sent : goal.invariant_of-self-in-Err-Full-clause-stopped_sent
invariant_of-self-in-Err-Full-clause-stopped_sent g c = are_sent_kept c.args.self.now.parcels.items _ is_stop c.args.self.now.stopped.items
    (keeps_sent _ c.args.w c.index_mut.result.now c.push.new.self c.index_mut.ensures.value c.push.ensures.ring c.in-Err-Full.ensures.full.1) c.args.self.now.stopped_sent
