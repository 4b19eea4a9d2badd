-- That the acceptor takes commands.
use Rattle.std.specs.Prelude.{◌≡◌, ◌⊎◌, ◌≤◌, ◌<◌, ⊤, ℕ, ◌++◌, ◌∷◌, [], Bool, true, false, List, length, map, count_by, is_some, Option, None, Some}
use Rattle.std.specs.Option.{option_map}
use Rattle.service_core.specs.Counts.{Rose}
use Rattle.server_commands.specs.Commands.{stops_with}
use Rattle.server_core.specs.Core.{Core}
use Rattle.server_core.specs.Runs.{after_all}
use Rattle.server_core.specs.declared.command.Command.{Command}
use Rattle.server_core.specs.declared.command.Command.TheVariants.{Pause, Resume, Stop}
use Rattle.server_core.specs.declared.event.Event.{Event}
use Rattle.server_core.specs.declared.event.Event.TheVariants.{Command as CommandOf}
use Rattle.server_jobs.specs.declared.waiting.Waiting.{Waiting}
use Rattle.server_run.specs.Done.{Adds}
use Rattle.server_run.specs.declared.entry.Entry.{Entry}
use Rattle.server_run.specs.declared.outcome.Outcome.{Outcome}
use Rattle.server_run.specs.declared.outcome.Outcome.TheVariants.{Stopped}
use Rattle.server_acceptor.specs.Accepting.{is_command, is_got}
use Rattle.server_acceptor.specs.declared.acceptor.Acceptor.{Acceptor}
use Rattle.server_acceptor.specs.declared.stop.Stop.{Stop as FirstStop}

-- their events, in order
abbrev pub events_for : List Command → List Event
events_for commands = map (λ c. CommandOf c) commands

-- the count of stops, behind these commands
abbrev pub stops_behind : List Command → ℕ → ℕ
stops_behind [] stops = stops
stops_behind (command ∷ commands) stops = stops_behind commands (stops_with command stops)

-- it is paused, and no stop came
abbrev pub IsPausedOnly : Core → Type 0
IsPausedOnly s = (s.paused ≡ true) × (s.stopping ≡ None)

-- what the acceptor adds to the commands that came: a graceful stop, where the source has ended and it is paused and not stopped
abbrev pub AddsOwn : Core → Bool → List Command → Type 0
AddsOwn s ended [] = ended ≡ true → IsPausedOnly s → ⊥
AddsOwn s ended (command ∷ own) = (ended ≡ true) × IsPausedOnly s × (command ≡ Stop true) × (own ≡ [])

-- These commands came of the source, at most 256, and behind them the acceptor's own one. The source gave no more then, or gave 256.
pub record ComeFrom {Co : Type 0} (given : Co → Option (List Command)) (stops idles : Co → ℕ) (ended : Co → Bool) (s : Core) (before after : Co) (commands : List Command) : Type 0 where
  pub came : List Command
  pub own : List Command
  pub all : commands ≡ came ++ own
  pub few : length came ≤ 256
  pub adds : AddsOwn (after_all s (events_for came)) (ended after) own
  pub given_more : given after ≡ option_map (λ before. before ++ came) (given before)
  pub stops_more : stops after ≡ stops_behind came (stops before)
  pub read : Rose (idles before) (idles after) ⊎ (length came ≡ 256)
  -- one that had ended gave none
  pub over : ended before ≡ true → (came ≡ []) × (ended after ≡ true)

-- The commands are the first events of a turn, and a connection is accepted only where the source gave no more.
pub record TakesCommands {Co : Type 0} (given : Co → Option (List Command)) (stops idles : Co → ℕ) (ended : Co → Bool) (s : Core) (before after : Co) (events : List Event) : Type 0 where
  pub commands : List Command
  pub rest : List Event
  pub first : events ≡ events_for commands ++ rest
  pub only : count_by is_command rest ≡ 0
  pub come : ComeFrom given stops idles ended s before after commands
  pub asked : (t : ℕ) → 0 < count_by (is_got t) rest → Rose (idles before) (idles after)

-- the first stop is kept, with the time when it was taken up
abbrev pub KeepsStop : Option FirstStop → Option FirstStop → ℕ → Type 0
KeepsStop None None now = ⊤
KeepsStop None (Some stop) now = stop.since ≡ now
KeepsStop (Some first) after now = after ≡ Some first

-- the first stop
abbrev pub first_stop : Option FirstStop → Bool → ℕ → Option FirstStop
first_stop None graceful now = Some (record { graceful = graceful; since = now })
first_stop (Some first) graceful now = Some first

abbrev pub stop_behind : Option FirstStop → Command → ℕ → Option FirstStop
stop_behind stop Pause now = stop
stop_behind stop Resume now = stop
stop_behind stop (Stop graceful) now = first_stop stop graceful now

-- what waits behind a command, and what it lets go
abbrev pub waits_behind : {X : Type 0} → Command → Option X → Option X
waits_behind Pause waiting = waiting
waits_behind Resume waiting = waiting
waits_behind (Stop graceful) waiting = None

abbrev pub goes_at : {X : Type 0} → Command → Option X → Option X
goes_at Pause waiting = None
goes_at Resume waiting = None
goes_at (Stop graceful) waiting = waiting

-- a connection that waited, as it is let go
abbrev pub entry_of : {L : Type 0} → Outcome → Waiting L → Entry L
entry_of outcome w = record { serial = w.serial; token = w.token; place = w.place; link = w.link; outcome = outcome }

abbrev pub gone_of : {L : Type 0} → Outcome → Option (Waiting L) → List (Entry L)
gone_of outcome None = []
gone_of outcome (Some w) = entry_of outcome w ∷ []

-- nothing was let go, or what waited was, for this reason
abbrev pub LetsGoAs : {L : Type 0} → Outcome → Type 0 → Acceptor L → Acceptor L → List (Entry L) → Type 0
LetsGoAs outcome reason a b gone = ((b.waiting ≡ a.waiting) × (gone ≡ [])) ⊎ ((b.waiting ≡ None) × (gone ≡ gone_of outcome a.waiting) × reason)

-- what a command leaves where it is: nothing was let go, or what waited was, at a stop
abbrev pub LetsGo : {L : Type 0} → Acceptor L → Acceptor L → List (Entry L) → Type 0
LetsGo a b gone = LetsGoAs (Stopped false) (is_some b.core.stopping ≡ true) a b gone

-- what commands leave as it was
pub record KeepsBeside {L : Type 0} (a b : Acceptor L) : Type 0 where
  pub parcels : b.parcels ≡ a.parcels
  pub notes : b.notes ≡ a.notes
  pub ready : b.ready ≡ a.ready
  pub stopped : b.stopped ≡ a.stopped
  pub forced : b.forced ≡ a.forced
  pub serial : b.serial ≡ a.serial
  pub places : b.places ≡ a.places
  pub failed : b.failed ≡ a.failed
  pub first : b.first ≡ a.first
  pub limit : b.limit ≡ a.limit
  pub retry_limit : b.retry_limit ≡ a.retry_limit
  pub shutdown_timeout : b.shutdown_timeout ≡ a.shutdown_timeout
  pub lacks_room : b.lacks_room ≡ a.lacks_room

-- these commands were carried out, in order
pub record Obeys {L D : Type 0} (taken : D → Option (List (Entry L))) (count served : D → ℕ) (a b : Acceptor L) (old new : D) (commands : List Command) (now : ℕ) : Type 0 where
  pub gone : List (Entry L)
  pub adds : Adds taken count served old new gone
  pub lets_go : LetsGo a b gone
  pub early : a.serial ≡ 0 → gone ≡ []
  pub core : b.core ≡ after_all a.core (events_for commands)
  pub events : b.events.items ≡ a.events.items ++ events_for commands
  pub stop : KeepsStop a.stop b.stop now
  pub beside : KeepsBeside a b

-- the end of a source was taken up
pub record TakesEnd {L D : Type 0} (taken : D → Option (List (Entry L))) (count served : D → ℕ) (a b : Acceptor L) (old new : D) (now : ℕ) : Type 0 where
  pub own : List Command
  pub adds : AddsOwn a.core true own
  pub obeys : Obeys taken count served a b old new own now

-- the commands that waited were taken
pub record TakesFirst {L D Co : Type 0} (taken : D → Option (List (Entry L))) (count served : D → ℕ) (given : Co → Option (List Command)) (stops idles : Co → ℕ) (ended : Co → Bool)
    (a b : Acceptor L) (old new : D) (before after : Co) (now : ℕ) (idle : Bool) : Type 0 where
  pub commands : List Command
  pub come : ComeFrom given stops idles ended a.core before after commands
  pub obeys : Obeys taken count served a b old new commands now
  pub none_left : idle ≡ true → Rose (idles before) (idles after)
  pub many : idle ≡ false → 256 ≤ length commands
