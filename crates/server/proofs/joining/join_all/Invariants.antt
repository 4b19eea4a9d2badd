use Rattle.std.proofs.Common.{◌≡◌, length, vec_len}
use Rattle.worker_job.specs.Promise.{HandsOver}
use Rattle.server.specs.Rows.{rows_of}
use Rattle.server.proofs.JoinSteps.{JoinedFrom}
use Rattle.server.proofs.joining.join_all.Given as goal

abbrev pub invariant-loop-last : goal.invariant-loop-last
invariant-loop-last g l = record {
  so_far : JoinedFrom g.L.Link.identity (λ job out. HandsOver g.L.Link.identity g.F.ServerServiceFactory.may_serve g.F.ServerServiceFactory.may_leave g.F.ServerServiceFactory.may_ready g.F.ServerServiceFactory.may_init g.F.ServerServiceFactory.may_make job out) (λ all. all)
      (rows_of l.fn.parcels.items l.fn.notes.items l.fn.running.items) (rows_of l.parcels.items l.notes.items l.running.items) l.unstarted;
  as_many : (length l.parcels.items ≡ length l.running.items) × (length l.notes.items ≡ length l.running.items);
}

abbrev pub decreases-loop-last : goal.decreases-loop-last
decreases-loop-last g l = vec_len l.running
