use Rattle.std.proofs.Common.{◌≤◌, length}
use Rattle.rtrb.specs.Ring.{known_items}
use Rattle.server_jobs.specs.Returning.{HandsFrom, entries_of, entry_of_parcel}
use Rattle.server_jobs.proofs.returning.hand_on_parcels.Given as goal

abbrev pub invariant-loop : goal.invariant-loop
invariant-loop g l = HandsFrom entry_of_parcel g.Do.Done.taken g.Do.Done.count g.Do.Done.served g.Do.Done.spare (known_items l.fn.parcels) (known_items l.parcels) l.fn.done l.done
    × (length (entries_of entry_of_parcel (known_items l.parcels)) ≤ g.Do.Done.spare l.done)

abbrev pub decreases-loop : goal.decreases-loop
decreases-loop g l = length (known_items l.parcels)
