use Rattle.std.proofs.Common.{◌≤◌, length}
use Rattle.std.specs.VecDeque.{deque_len}
use Rattle.server_jobs.specs.Returning.{HandsFrom, entries_of, entry_of_note}
use Rattle.server_jobs.proofs.returning.hand_on_owed.Given as goal

abbrev pub invariant-loop : goal.invariant-loop
invariant-loop g l = HandsFrom entry_of_note g.Do.Done.taken g.Do.Done.count g.Do.Done.served g.Do.Done.spare (l.fn.owed.items) (l.owed.items) l.fn.done l.done
    × (length (entries_of entry_of_note (l.owed.items)) ≤ g.Do.Done.spare l.done)

abbrev pub decreases-loop : goal.decreases-loop
decreases-loop g l = deque_len l.owed
