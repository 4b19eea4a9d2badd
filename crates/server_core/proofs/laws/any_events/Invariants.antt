use Rattle.std.proofs.Common.{◌≡◌, drop}
use Rattle.server_core.specs.Core.{IsKept}
use Rattle.server_core.specs.Runs.{after_any}
use Rattle.server_core.proofs.laws.any_events.Given as goal

abbrev pub invariant-loop-event : goal.invariant-loop-event
invariant-loop-event l = record {
  run : after_any l.core (drop l.event-index l.events) ≡ after_any l.initial.core l.events;
  kept : IsKept l.core;
}
