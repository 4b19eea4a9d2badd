-- What many turns of the acceptor do.
use Rattle.std.specs.Prelude.{◌≡◌, ◌≤◌, ℕ, Bool, true, false, List, length, None, Option, Some, slice_index_or, sum}
use Rattle.service_core.specs.Link.{Identity}
use Rattle.server_acceptor.specs.Accepting.{Acts, Finishes}
use Rattle.server_acceptor.specs.Acceptors.{core_of, listeners_of, out_of, places_of, waiting_of}
use Rattle.server_acceptor.specs.declared.acceptor.Acceptor.{Acceptor}
use Rattle.server_core.specs.declared.command.Command.{Command}
use Rattle.server_core.specs.declared.event.Event.{Event}
use Rattle.server_run.specs.Listener.{Mark}
use Rattle.server_run.specs.Delivery.{given_at}
use Rattle.server_run.specs.declared.entry.Entry.{Entry}
use Rattle.server_run.specs.declared.report.End.{End}
use Rattle.server_run.specs.declared.report.End.TheVariants.{Drained, Stopped, NoWorkers, Memory}
use Rattle.server.specs.Stopping.{Commanded, InTime}

-- From a to b the acceptor made turns, and workers were joined in between, by these events: the last one, so that none is left, or not.
pub record Accepts {Li L D : Type 0} (given : Li → ℕ) (left : Li → Option (List L)) (rest : Li → Option (List Mark)) (identity : L → Identity) (ended : Li → Bool) (faults : Li → ℕ)
    (taken : D → Option (List (Entry L))) (count served : D → ℕ) (before after : List Li) (a b : Acceptor L) (old new : D) (last : Bool) : Type 0 where
  pub events : List Event
  pub acts : Acts given left rest identity ended faults taken count served before after a b old new events last

-- it ended since no worker is left
abbrev pub ends_alone : Option End → Bool
ends_alone None = false
ends_alone (Some Drained) = false
ends_alone (Some (Stopped graceful)) = false
ends_alone (Some NoWorkers) = true
ends_alone (Some Memory) = false

-- Why a run ended: as the acceptor says, or since no worker is left, with no stop, and nothing that waits or is out.
abbrev pub Ends : {L : Type 0} → Type 0 → Acceptor L → End → Type 0
Ends may_fault a Drained = Finishes a Drained
Ends may_fault a (Stopped graceful) = Finishes a (Stopped graceful)
Ends may_fault a NoWorkers = (waiting_of a ≡ None) × (sum (core_of a).out ≡ 0) × ((core_of a).stopping ≡ None) × may_fault
Ends may_fault a Memory = Finishes a Memory

-- It took its commands of the source, and the clock stood so at its start and its end.
pub record Hears {L Co : Type 0} (given : Co → Option (List Command)) (stops : Co → ℕ) (ended : Co → Bool) (b : Acceptor L) (before after : Co) (timeout start now : ℕ) : Type 0 where
  pub commanded : Commanded given stops ended before after (core_of b)
  pub in_time : InTime b timeout start now

-- It may make a turn with these listeners and this holder of what is done, for so many of which there is room.
pub record CanAccept {Li L : Type 0} (given : Li → ℕ) (listeners : List Li) (a : Acceptor L) (spare : ℕ) : Type 0 where
  pub as_many : length listeners ≡ listeners_of a
  pub given_more : (t : ℕ) → slice_index_or (places_of a) t 0 ≤ given_at given listeners t
  pub room : out_of a ≤ spare
