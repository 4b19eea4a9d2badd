use Rattle.std.proofs.Common.{ap, refl, sym, ◌∙◌}
use Rattle.std.specs.Prelude.{◌||◌}
use Rattle.std.specs.List.{list_any}
use Rattle.rtrb.specs.Ring.{known_items}
use Rattle.server_jobs.specs.Parcels.{is_stop}
use Rattle.server.specs.Replacing.{entry_left}
use Rattle.server.proofs.TakeBackSteps.{came_one, same_consumer_trans, stops_less, stops_more, taken_may, taken_more, taken_none}
use Rattle.server.proofs.taking_back.take_parcels.Goals as goal

pub take_parcel-requires-clause-may : goal.take_parcel-requires-clause-may
take_parcel-requires-clause-may g c =
    taken_may g.Li.Listener.given g.Li.Listener.left g.Li.Listener.rest g.Li.Link.Link.identity g.Li.Listener.ended g.Li.Listener.faults g.Do.Done.taken g.Do.Done.count g.Do.Done.served g.Do.Done.spare (entry_left c.args.outcome) c.args.w _ c.args.acceptor.now c.args.notes.now c.args.done.now c.pop_known-parcel.result (known_items c.pop_known-parcel.new.self) _ c.loop-outcome.acceptor c.loop-outcome.notes c.loop-outcome.done c.pop_known-parcel.ensures.received.1 c.loop-outcome.invariant.from

pub loop-outcome-init : goal.loop-outcome-init
loop-outcome-init g c = record {
  from = taken_none g.Li.Listener.given g.Li.Listener.left g.Li.Listener.rest g.Li.Link.Link.identity g.Li.Listener.ended g.Li.Listener.faults g.Do.Done.taken g.Do.Done.count g.Do.Done.served g.Do.Done.spare (entry_left c.args.outcome) c.args.w _ c.args.acceptor.now c.args.notes.now c.args.done.now (g.met.Do.Done.small c.args.done.now) c.requires.may c.requires.spare;
  same = ((refl, refl, refl, refl), refl);
  came = refl;
  stops = refl;
}

pub loop-outcome-preserved-then-take_parcel : goal.loop-outcome-preserved-then-take_parcel
loop-outcome-preserved-then-take_parcel g c =
    record {
      from = taken_more g.Li.Listener.given g.Li.Listener.left g.Li.Listener.rest g.Li.Link.Link.identity g.Li.Listener.ended g.Li.Listener.faults g.Do.Done.taken g.Do.Done.count g.Do.Done.served g.Do.Done.spare (entry_left c.args.outcome) c.args.w _ c.args.acceptor.now c.args.notes.now c.args.done.now c.pop_known-parcel.result _ _ c.loop-outcome.acceptor c.loop-outcome.notes c.loop-outcome.done c.pop_known-parcel.ensures.received.1 c.loop-outcome.invariant.from
          c.take_parcel.new.acceptor c.take_parcel.new.notes c.take_parcel.new.done c.take_parcel.ensures.goes c.take_parcel.ensures.takes c.take_parcel.ensures.spare;
      same = same_consumer_trans c.args.parcels.now c.loop-outcome.parcels c.pop_known-parcel.new.self c.loop-outcome.invariant.same c.pop_known-parcel.ensures.ring;
      came = came_one _ _ _ _ c.pop_known-parcel.result _ c.pop_known-parcel.ensures.received.0 c.pop_known-parcel.ensures.received.1 c.loop-outcome.invariant.came;
      stops = stops_more c.loop-outcome.stopped (is_stop c.pop_known-parcel.result) _ _ (ap (λ xs. c.loop-outcome.stopped || list_any is_stop xs) (sym c.pop_known-parcel.ensures.received.1) ∙ c.loop-outcome.invariant.stops) (sym c.take_parcel.ensures.stop ∙ c.if-take_parcel.true);
    }

pub loop-outcome-preserved : goal.loop-outcome-preserved
loop-outcome-preserved g c =
    record {
      from = taken_more g.Li.Listener.given g.Li.Listener.left g.Li.Listener.rest g.Li.Link.Link.identity g.Li.Listener.ended g.Li.Listener.faults g.Do.Done.taken g.Do.Done.count g.Do.Done.served g.Do.Done.spare (entry_left c.args.outcome) c.args.w _ c.args.acceptor.now c.args.notes.now c.args.done.now c.pop_known-parcel.result _ _ c.loop-outcome.acceptor c.loop-outcome.notes c.loop-outcome.done c.pop_known-parcel.ensures.received.1 c.loop-outcome.invariant.from
          c.take_parcel.new.acceptor c.take_parcel.new.notes c.take_parcel.new.done c.take_parcel.ensures.goes c.take_parcel.ensures.takes c.take_parcel.ensures.spare;
      same = same_consumer_trans c.args.parcels.now c.loop-outcome.parcels c.pop_known-parcel.new.self c.loop-outcome.invariant.same c.pop_known-parcel.ensures.ring;
      came = came_one _ _ _ _ c.pop_known-parcel.result _ c.pop_known-parcel.ensures.received.0 c.pop_known-parcel.ensures.received.1 c.loop-outcome.invariant.came;
      stops = stops_less c.loop-outcome.stopped (is_stop c.pop_known-parcel.result) _ _ (ap (λ xs. c.loop-outcome.stopped || list_any is_stop xs) (sym c.pop_known-parcel.ensures.received.1) ∙ c.loop-outcome.invariant.stops) (sym c.take_parcel.ensures.stop ∙ c.if-take_parcel.false);
    }
