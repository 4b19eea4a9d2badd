use Rattle.std.proofs.Common.{◌≤◌, length}
use Rattle.rtrb.specs.Ring.{known_items}
use Rattle.server_jobs.specs.Returning.{HandsFrom, entries_of, entry_of_note}
use Rattle.server_jobs.proofs.returning.hand_on_notes.Given as goal

abbrev pub invariant-loop : goal.invariant-loop
invariant-loop g l = HandsFrom entry_of_note g.Do.Done.taken g.Do.Done.count g.Do.Done.served g.Do.Done.spare (known_items l.fn.notes) (known_items l.notes) l.fn.done l.done
    × (length (entries_of entry_of_note (known_items l.notes)) ≤ g.Do.Done.spare l.done)

abbrev pub decreases-loop : goal.decreases-loop
decreases-loop g l = length (known_items l.notes)
