-- What a turn does with commands and stops, seen from its start.
use Rattle.std.proofs.Common.{◌≡◌, ◌<◌, ◌≤◌, ◌++◌, [], ℕ, Bool, true, false, cond, List, Option, Some, refl, sym, ◌∙◌, ap, arith, subst}
use Rattle.std.specs.Prelude.{count_by}
use Rattle.std.proofs.lemmas.List.Sums.{sum_by-append}
use Rattle.service_core.specs.Counts.{Rose}
use Rattle.service_core.specs.Link.{Identity}
use Rattle.server_core.specs.Core.{Core}
use Rattle.server_core.specs.declared.command.Command.{Command}
use Rattle.server_core.specs.declared.event.Event.{Event}
use Rattle.server_run.specs.Delivery.{given_at}
use Rattle.server_run.specs.Listener.{Mark}
use Rattle.server_run.specs.declared.entry.Entry.{Entry}
use Rattle.server_acceptor.specs.Accepting.{LeavesStops, Proceeds, is_command, is_failed, is_got, refused}
use Rattle.server_acceptor.specs.Acceptors.{core_of, events_of, parcels_of}
use Rattle.server_acceptor.specs.Commanding.{KeepsStop, TakesCommands, TakesFirst, events_for}
use Rattle.server_acceptor.specs.Sending.{IsForced, IsStopped}
use Rattle.server_acceptor.specs.Stopping.{ForcesAll, IsDue}
use Rattle.server_acceptor.specs.declared.acceptor.Acceptor.{Acceptor}
use Rattle.server_acceptor.specs.declared.stop.Stop.{Stop as FirstStop}
use Rattle.server_acceptor.proofs.CommandSteps.{count_all, count_none, refused_commands}

module _ {L D Co : Type 0} (taken : D → Option (List (Entry L))) (count served : D → ℕ) (given : Co → Option (List Command)) (stops idles : Co → ℕ) (ended : Co → Bool)
    (a b : Acceptor L) (d e : D) (before after : Co) (now : ℕ) (idle : Bool) (t : TakesFirst taken count served given stops idles ended a b d e before after now idle) (none : events_of a ≡ []) where
  -- the events are those of the commands
  first_events : events_of b ≡ events_for t.commands
  first_events = t.obeys.events ∙ ap (λ es. es ++ events_for t.commands) none

  pub first_failed : (v : ℕ) → count_by (is_failed v) (events_of b) ≡ 0
  first_failed v = ap (count_by (is_failed v)) first_events ∙ count_none (is_failed v) (λ c. refl) t.commands

  pub first_refused : refused (Some []) (events_of b) ≡ Some []
  first_refused = ap (refused (Some [])) first_events ∙ refused_commands [] t.commands

  pub first_many : (events : List Event) → count_by is_command events ≡ count_by is_command (events_of b) → idle ≡ false → 256 ≤ count_by is_command events
  first_many events same busy = omega (arith, same, ap (count_by is_command) first_events, count_all t.commands, t.many busy)

  -- and the rest holds none
  pub turn_takes : {Li : Type 0} (given_li : Li → ℕ) (left : Li → Option (List L)) (rest : Li → Option (List Mark)) (identity : L → Identity) (ended_li : Li → Bool) (faults : Li → ℕ)
      (l m : List Li) (c : Acceptor L) (f : D) → Proceeds given_li left rest identity ended_li faults taken count served l m b c e f → LeavesStops b c → (idle ≡ false → m ≡ l)
      → TakesCommands given stops idles ended (core_of a) before after (events_of c)
  turn_takes given_li left rest identity ended_li faults l m c f p leaves unasked = record {
    commands = t.commands;
    rest = p.more;
    first = p.appended ∙ ap (λ es. es ++ p.more) first_events;
    only = omega (arith, leaves.commands, ap (count_by is_command) p.appended, sum_by-append (λ x. cond (is_command x) 1 0) (events_of b) p.more);
    come = t.come;
    asked = λ v some. by_idle v some idle refl;
  }
    where
      by_idle : (v : ℕ) → 0 < count_by (is_got v) p.more → (i : Bool) → idle ≡ i → Rose (idles before) (idles after)
      by_idle v some true is = t.none_left is
      by_idle v some false is = absurd (omega (arith, some, p.does.acts.logged.got v, ap (λ ls. given_at given_li ls v) (unasked is)))

-- the same where the events are the same
pub takes_same : {Co : Type 0} (given : Co → Option (List Command)) (stops idles : Co → ℕ) (ended : Co → Bool) (s : Core) (before after : Co) (events then_these : List Event)
    → then_these ≡ events → TakesCommands given stops idles ended s before after events → TakesCommands given stops idles ended s before after then_these
takes_same given stops idles ended s before after events then_these same t = subst (TakesCommands given stops idles ended s before after) (sym same) t

-- the kept stop, and which workers were sent a force message
pub stop_kept : (first between last : Option FirstStop) (now told : ℕ) → KeepsStop first between now → last ≡ between → told ≡ now → KeepsStop first last told
stop_kept first between last now told k same time = subst (λ n. KeepsStop first last n) (sym time) (subst (λ o. KeepsStop first o now) (sym same) k)

pub forced_from : {L : Type 0} (a b c : Acceptor L) (w : ℕ) → b.parcels ≡ a.parcels → LeavesStops b c → IsForced (parcels_of c) w → IsForced (parcels_of a) w
forced_from a b c w same leaves is = subst (λ v. IsForced v.items w) same (leaves.forced w is)

pub stopped_from : {L : Type 0} (a b c : Acceptor L) (w : ℕ) → b.parcels ≡ a.parcels → LeavesStops b c → IsStopped (parcels_of c) w → IsStopped (parcels_of a) w
stopped_from a b c w same leaves is = subst (λ v. IsStopped v.items w) same (leaves.stopped w is)

pub due_at : {L : Type 0} (a : Acceptor L) (now told : ℕ) → told ≡ now → IsDue a now → IsDue a told
due_at a now told time is = subst (λ n. IsDue a n) (sym time) is

pub forces_at : {L : Type 0} (a : Acceptor L) (now told : ℕ) → told ≡ now → ForcesAll a now → ForcesAll a told
forces_at a now told time is = subst (λ n. ForcesAll a n) (sym time) is
