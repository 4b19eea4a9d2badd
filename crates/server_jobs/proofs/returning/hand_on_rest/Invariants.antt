use Rattle.std.proofs.Common.{◌≤◌, length}
use Rattle.std.specs.Vec.Iter.{into_iter_items, into_iter_len}
use Rattle.server_jobs.specs.Returning.{HandsFrom, entries_of, entry_of_waiting}
use Rattle.server_jobs.proofs.returning.hand_on_rest.Given as goal

abbrev pub invariant-loop : goal.invariant-loop
invariant-loop g l = HandsFrom (entry_of_waiting l.fn.worker) g.Do.Done.taken g.Do.Done.count g.Do.Done.served g.Do.Done.spare (into_iter_items l.fn.rest) (into_iter_items l.rest) l.fn.done l.done
    × (length (entries_of (entry_of_waiting l.fn.worker) (into_iter_items l.rest)) ≤ g.Do.Done.spare l.done)

abbrev pub decreases-loop : goal.decreases-loop
decreases-loop g l = into_iter_len l.rest
