use Rattle.std.proofs.Common.{◌≤◌, vec_capacity}
use Rattle.server.specs.Starting.{HasStarted}
use Rattle.server.proofs.Starts.{StartsUpTo}
use Rattle.server.proofs.starting.start_workers.Given as goal

abbrev pub invariant-loop-w : goal.invariant-loop-w
invariant-loop-w g l =
    StartsUpTo (HasStarted g.F.ServerServiceFactory.may_serve g.F.ServerServiceFactory.may_leave g.F.ServerServiceFactory.may_ready g.F.ServerServiceFactory.may_init g.F.ServerServiceFactory.may_make g.L.Link.identity l.workers l.fn.factory l.listeners)
    (g.Sp.Spawner.starts l.fn.spawner) (g.Sp.Spawner.refusals l.fn.spawner) l.w l.parcels.items l.notes.items l.running.items (g.Sp.Spawner.starts l.spawner) (g.Sp.Spawner.refusals l.spawner)
    × (l.workers ≤ vec_capacity l.parcels) × (l.workers ≤ vec_capacity l.notes) × (l.workers ≤ vec_capacity l.running)
