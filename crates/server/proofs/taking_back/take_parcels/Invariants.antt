use Rattle.std.proofs.Common.{◌≡◌, ◌++◌, length}
use Rattle.std.specs.Prelude.{◌||◌}
use Rattle.std.specs.List.{list_any}
use Rattle.rtrb.specs.Ring.{SameConsumer, known_items, received}
use Rattle.server_jobs.specs.Parcels.{is_stop}
use Rattle.server.specs.Replacing.{entry_left}
use Rattle.server.proofs.TakeBackSteps.{TakenFrom}
use Rattle.server.proofs.taking_back.take_parcels.Given as goal

abbrev pub invariant-loop-outcome : goal.invariant-loop-outcome
invariant-loop-outcome g l = record {
  from : TakenFrom g.Li.Listener.given g.Li.Listener.left g.Li.Listener.rest g.Li.Link.Link.identity g.Li.Listener.ended g.Li.Listener.faults g.Do.Done.taken g.Do.Done.count g.Do.Done.served g.Do.Done.spare (entry_left l.outcome) l.w (known_items l.fn.parcels) (known_items l.parcels) l.fn.acceptor l.acceptor l.fn.notes l.notes l.fn.done l.done;
  same : SameConsumer l.fn.parcels l.parcels;
  came : received l.parcels ++ known_items l.parcels ≡ received l.fn.parcels ++ known_items l.fn.parcels;
  stops : (l.stopped || list_any is_stop (known_items l.parcels)) ≡ list_any is_stop (known_items l.fn.parcels);
}

abbrev pub decreases-loop-outcome : goal.decreases-loop-outcome
decreases-loop-outcome g l = length (known_items l.parcels)
