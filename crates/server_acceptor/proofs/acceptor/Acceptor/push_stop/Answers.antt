use Rattle.std.proofs.Common.{◌<◌, length, ◌∙◌, arith, rules}
use Rattle.std.proofs.Math.ListN.{length-set}
use Rattle.server_jobs.specs.declared.parcel.Parcel.TheVariants.{Stop}
use Rattle.server_acceptor.proofs.PlaceSteps.{keeps_sent, no_place_at, no_place_other, puts_at}
use Rattle.server_acceptor.proofs.Sendings.{are_sent_pushed}
use Rattle.server_jobs.specs.Parcels.{is_force, is_stop}
use Rattle.server_acceptor.proofs.acceptor.Acceptor.push_stop.Goals as goal

pub invariant_of-self : goal.invariant_of-self
invariant_of-self g c =
    let a = c.args.self.now in
    let inside : c.args.w < length a.parcels.items = omega (arith, c.requires.number, a.workers.0) in
    record {
      room = a.room;
      workers = (length-set a.parcels.items c.args.w c.push.new.self ∙ a.workers.0, a.workers.1, a.workers.2, a.workers.3);
      as_many_forced = a.as_many_forced;
      kept = a.kept;
      listeners = a.listeners;
      most = a.most;
      few = a.few;
      within = a.within;
      as_many_events = a.as_many_events;
      waits = a.waits;
      counted = a.counted;
      placed = a.placed;
      small = a.small;
      out_counted = a.out_counted;
      fits = a.fits;
      early = a.early;
      agrees = a.agrees;
      stopped_sent = are_sent_pushed a.parcels.items is_stop a.stopped.items c.args.w c.index_mut.result.now c.push.new.self (Stop c.args.graceful) c.push.result inside c.index_mut.ensures.value c.push.ensures.ring c.push.ensures.ok c.push.ensures.full a.stopped_sent;
      forced_sent = are_sent_pushed a.parcels.items is_force a.forced.items c.args.w c.index_mut.result.now c.push.new.self (Stop c.args.graceful) c.push.result inside c.index_mut.ensures.value c.push.ensures.ring c.push.ensures.ok c.push.ensures.full a.forced_sent;
      patient = a.patient;
      rule = a.rule;
      some_limit = a.some_limit;
    }

pub returns-clause-puts : goal.returns-clause-puts
returns-clause-puts g c = λ _. puts_at _ c.args.w c.index_mut.result.now c.push.new.self (Stop c.args.graceful) (omega (arith, c.requires.number, c.args.self.now.workers.0)) c.index_mut.ensures.value c.push.ensures.ring (search rules)

pub returns-clause-no_place : goal.returns-clause-no_place
returns-clause-no_place g c v other has = no_place_other _ c.args.w v c.push.new.self other has

pub returns-then-is_err-clause-keeps : goal.returns-then-is_err-clause-keeps
returns-then-is_err-clause-keeps g c = λ _. (
  keeps_sent _ c.args.w c.index_mut.result.now c.push.new.self c.index_mut.ensures.value c.push.ensures.ring (search rules),
  no_place_at _ c.args.w c.push.new.self (omega (arith, c.requires.number, c.args.self.now.workers.0)) (search rules),
)

pub returns-then-is_err-clause-no_place : goal.returns-then-is_err-clause-no_place
returns-then-is_err-clause-no_place g c v other has = no_place_other _ c.args.w v c.push.new.self other has
