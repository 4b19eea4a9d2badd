-- What a run is told by its source of commands, and how it ends by that.
use Rattle.std.specs.Prelude.{◌≡◌, ◌⊎◌, ◌≤◌, ◌++◌, ◌∷◌, [], ⊤, ℕ, Bool, true, false, List, All, Option, None, Some, IfSome}
use Rattle.std.specs.Option.{option_map}
use Rattle.server_acceptor.specs.Acceptors.{core_of, parcels_of, shutdown_timeout_of, stop_of}
use Rattle.server_acceptor.specs.Commanding.{stops_behind}
use Rattle.server_acceptor.specs.Sending.{IsForced, IsStopped}
use Rattle.server_acceptor.specs.Stopping.{IsDue}
use Rattle.server_acceptor.specs.declared.acceptor.Acceptor.{Acceptor}
use Rattle.server_core.specs.Core.{Core, first_of}
use Rattle.server_core.specs.declared.command.Command.{Command}
use Rattle.server_core.specs.declared.command.Command.TheVariants.{Pause, Resume, Stop}
use Rattle.service_core.specs.Link.{Identity}
use Rattle.service_core.specs.declared.ended.Ended.{Ended}
use Rattle.server_run.specs.Report.{is_stop}
use Rattle.server_run.specs.Serving.{Serves}
use Rattle.server_run.specs.declared.entry.Entry.{Entry}
use Rattle.server_run.specs.declared.report.End.{End}
use Rattle.server_run.specs.declared.report.End.TheVariants.{Stopped}
use Rattle.server_worker.specs.Stops.{is_forced}

-- whether the first stop was graceful, behind these commands
abbrev pub stop_from : Option Bool → List Command → Option Bool
stop_from first [] = first
stop_from first (Pause ∷ commands) = stop_from first commands
stop_from first (Resume ∷ commands) = stop_from first commands
stop_from first (Stop graceful ∷ commands) = stop_from (first_of first graceful) commands

-- paused or not, behind these commands
abbrev pub paused_from : Bool → List Command → Bool
paused_from paused [] = paused
paused_from paused (Pause ∷ commands) = paused_from true commands
paused_from paused (Resume ∷ commands) = paused_from false commands
paused_from paused (Stop graceful ∷ commands) = paused_from paused commands

-- A run ends as stopped where a stop came, as the first one says; gracefully where the source of commands ended while it was paused; and else not so.
abbrev pub EndsBy : Option Bool → Bool → Bool → End → Type 0
EndsBy (Some graceful) ended paused end = end ≡ Stopped graceful
EndsBy None true true end = end ≡ Stopped true
EndsBy None true false end = is_stop end ≡ false
EndsBy None false paused end = is_stop end ≡ false

-- The source gave these commands.
pub record Gave {Co : Type 0} (given : Co → Option (List Command)) (stops : Co → ℕ) (before after : Co) : Type 0 where
  pub came : List Command
  pub given_more : given after ≡ option_map (λ commands. commands ++ came) (given before)
  pub stops_more : stops after ≡ stops_behind came (stops before)

-- These commands came of the source, and the run ended by them.
pub record IsTold {Co : Type 0} (given : Co → Option (List Command)) (stops : Co → ℕ) (ended : Co → Bool) (before after : Co) (end : End) : Type 0 where
  pub came : List Command
  pub given_more : given after ≡ option_map (λ commands. commands ++ came) (given before)
  pub stops_more : stops after ≡ stops_behind came (stops before)
  pub ends : EndsBy (stop_from None came) (ended after) (paused_from false came) end

-- an entry was stopped by force only where the stop was not graceful, or so much time had gone by
abbrev pub IsForcedInTime : {L : Type 0} → End → Type 0 → Entry L → Type 0
IsForcedInTime end late entry = is_forced entry.outcome ≡ true → (end ≡ Stopped false) ⊎ late

-- Each connection that the listeners gave was handed on, once, with its link; and none was stopped by force before its time.
pub record ServesInTime {Li L D : Type 0} (given : Li → ℕ) (left : Li → Option (List L)) (identity : L → Identity) (may_serve : ℕ → L → Ended L → Type 0)
    (may_leave : ℕ → L → L → Type 0) (taken : D → Option (List (Entry L))) (count served : D → ℕ) (before after : List Li) (old new : D) (workers : ℕ) (may_fault : Type 0) (end : End) (late : Type 0) : Type 0 where
  pub serves : Serves given left identity may_serve may_leave taken count served before after old new workers may_fault end
  pub forced : All (IsForcedInTime end late) serves.entries

-- ---- on the way there

-- what the acceptor added: nothing, or one graceful stop, where the source had ended and it was paused and not stopped
abbrev pub AddedOwn : List Command → Bool → List Command → Type 0
AddedOwn came ended [] = ⊤
AddedOwn came ended (command ∷ own) = (command ≡ Stop true) × (own ≡ []) × (ended ≡ true) × (stop_from None came ≡ None) × (paused_from false came ≡ true)

-- These commands came of the source in all turns, and behind them the acceptor's own one, and the core has carried them out.
pub record Commanded {Co : Type 0} (given : Co → Option (List Command)) (stops : Co → ℕ) (ended : Co → Bool) (before after : Co) (core : Core) : Type 0 where
  pub came : List Command
  pub own : List Command
  pub given_more : given after ≡ option_map (λ commands. commands ++ came) (given before)
  pub stops_more : stops after ≡ stops_behind came (stops before)
  pub added : AddedOwn came (ended after) own
  -- it is not paused where the source has ended, but for a stop
  pub goes_on : ended after ≡ true → core.paused ≡ true → core.stopping ≡ None → ⊥
  pub paused : core.paused ≡ paused_from false came
  pub stopping : core.stopping ≡ stop_from None (came ++ own)

-- The first stop came after a time of the clock, and each force message was due by another.
pub record InTime {L : Type 0} (a : Acceptor L) (timeout start now : ℕ) : Type 0 where
  pub same_timeout : shutdown_timeout_of a ≡ timeout
  pub since : IfSome (stop_of a) (λ stop. start ≤ stop.since)
  pub forced : (w : ℕ) → IsForced (parcels_of a) w → IsDue a now
  pub onward : start ≤ now

-- No stop was taken up, and none went out.
pub record IsUntold {L : Type 0} (a : Acceptor L) : Type 0 where
  pub no_stop : stop_of a ≡ None
  pub unpaused : (core_of a).paused ≡ false
  pub unstopped : (core_of a).stopping ≡ None
  pub none_sent : (w : ℕ) → IsStopped (parcels_of a) w → ⊥
