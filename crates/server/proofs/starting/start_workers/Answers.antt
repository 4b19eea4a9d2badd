use Rattle.std.proofs.Common.{◌∙◌, Some, arith}
use Rattle.server.specs.Rows.{row_of}
use Rattle.server.specs.Starting.{HasStarted}
use Rattle.server.proofs.Starts.{not_spawn, starts_more}
use Rattle.server.proofs.starting.start_workers.Goals as goal

pub returns-in-Err-clause-unrefused : goal.returns-in-Err-clause-unrefused
returns-in-Err-clause-unrefused g c other = c.in-Err.ensures.unrefused (not_spawn c.in-Err.fault other) ∙ c.loop-w.invariant.0.unrefused

pub loop-w-preserved : goal.loop-w-preserved
loop-w-preserved g c = (
  starts_more (HasStarted g.F.ServerServiceFactory.may_serve g.F.ServerServiceFactory.may_leave g.F.ServerServiceFactory.may_ready g.F.ServerServiceFactory.may_init g.F.ServerServiceFactory.may_make g.L.Link.identity c.args.workers c.args.factory.now c.args.listeners)
      _ _ c.loop-w.w _ _ _ _ _ _ _ _ _ (row_of c.in-Ok.line.parcels c.in-Ok.line.notes (Some c.in-Ok.line.running)) c.loop-w.invariant.0 c.push_reserved.ensures.items c.push_reserved-in-Ok.ensures.items c.push_reserved-in-Ok-2.ensures.items
      (c.in-Ok.ensures.line c.args.workers) c.in-Ok.ensures.ok _ (c.in-Ok.ensures.unrefused (λ is. cc)),
  omega (arith, c.push_reserved.ensures.capacity, c.loop-w.invariant.1),
  omega (arith, c.push_reserved-in-Ok.ensures.capacity, c.loop-w.invariant.2),
  omega (arith, c.push_reserved-in-Ok-2.ensures.capacity, c.loop-w.invariant.3),
)
