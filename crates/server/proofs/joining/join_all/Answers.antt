use Rattle.std.specs.Prelude.{⊤}
use Rattle.std.proofs.Common.{sym, ◌∙◌, subst, rules}
use Rattle.server_jobs.specs.Joins.{IsLine}
use Rattle.worker_job.specs.Promise.{HandsOver}
use Rattle.server.specs.Rows.{by_job}
use Rattle.server.proofs.JoinSteps.{found_at, joined_found, joined_more, joined_next, joined_none}
use Rattle.server.proofs.Rows.{rows_length, rows_popped}
use Rattle.server.proofs.joining.join_all.Goals as goal

pub loop-last-init : goal.loop-last-init
loop-last-init g c = record {
  so_far = joined_none g.L.Link.identity (λ job out. HandsOver g.L.Link.identity g.F.ServerServiceFactory.may_serve g.F.ServerServiceFactory.may_leave g.F.ServerServiceFactory.may_ready g.F.ServerServiceFactory.may_init g.F.ServerServiceFactory.may_make job out) (λ all. all) _ c.requires.lines;
  as_many = c.requires.as_many;
}

pub join_one-requires-after_bounds : goal.join_one-requires-after_bounds
join_one-requires-after_bounds g c κs within =
    subst (λ r. by_job (IsLine g.L.Link.identity (λ job out. HandsOver g.L.Link.identity g.F.ServerServiceFactory.may_serve g.F.ServerServiceFactory.may_leave g.F.ServerServiceFactory.may_ready g.F.ServerServiceFactory.may_init g.F.ServerServiceFactory.may_make job out) (λ all. all)) (λ p n. ⊤) c.in-Some-pop.producer c.in-Some-pop-2.consumer r) c.in-Some-last.is
    (joined_next g.L.Link.identity (λ job out. HandsOver g.L.Link.identity g.F.ServerServiceFactory.may_serve g.F.ServerServiceFactory.may_leave g.F.ServerServiceFactory.may_ready g.F.ServerServiceFactory.may_init g.F.ServerServiceFactory.may_make job out) (λ all. all) _ _ _ _ _
    (rows_popped _ _ _ _ _ _ c.in-Some-pop.producer c.in-Some-pop-2.consumer c.in-Some.last c.in-Some-pop.ensures.items c.in-Some-pop-2.ensures.items c.in-Some.ensures.items c.loop-last.invariant.as_many.0 c.loop-last.invariant.as_many.1)
    c.loop-last.invariant.so_far)

pub loop-last-preserved : goal.loop-last-preserved
loop-last-preserved g c = record {
  so_far = joined_more g.L.Link.identity (λ job out. HandsOver g.L.Link.identity g.F.ServerServiceFactory.may_serve g.F.ServerServiceFactory.may_leave g.F.ServerServiceFactory.may_ready g.F.ServerServiceFactory.may_init g.F.ServerServiceFactory.may_make job out) (λ all. all) _ _ _ _ _
      (rows_popped _ _ _ _ _ _ c.in-Some-pop.producer c.in-Some-pop-2.consumer c.in-Some.last c.in-Some-pop.ensures.items c.in-Some-pop-2.ensures.items c.in-Some.ensures.items c.loop-last.invariant.as_many.0 c.loop-last.invariant.as_many.1)
      c.loop-last.invariant.so_far;
  as_many = (search rules, search rules);
}

pub loop-last-preserved-in-Some-join_one : goal.loop-last-preserved-in-Some-join_one
loop-last-preserved-in-Some-join_one g c = record {
  so_far = joined_found g.L.Link.identity (λ job out. HandsOver g.L.Link.identity g.F.ServerServiceFactory.may_serve g.F.ServerServiceFactory.may_leave g.F.ServerServiceFactory.may_ready g.F.ServerServiceFactory.may_init g.F.ServerServiceFactory.may_make job out) (λ all. all) _ _ _ _ _ _
      (rows_popped _ _ _ _ _ _ c.in-Some-pop.producer c.in-Some-pop-2.consumer c.in-Some.last c.in-Some-pop.ensures.items c.in-Some-pop-2.ensures.items c.in-Some.ensures.items c.loop-last.invariant.as_many.0 c.loop-last.invariant.as_many.1)
      (search rules ∙ sym (rows_length c.pop-in-Some.new.self.items c.pop-in-Some-2.new.self.items c.pop.new.self.items (search rules) (search rules))) c.loop-last.invariant.so_far
      (found_at g.L.Link.identity (λ job out. HandsOver g.L.Link.identity g.F.ServerServiceFactory.may_serve g.F.ServerServiceFactory.may_leave g.F.ServerServiceFactory.may_ready g.F.ServerServiceFactory.may_init g.F.ServerServiceFactory.may_make job out) (λ all. all) c.in-Some-pop.producer c.in-Some-pop-2.consumer c.in-Some.last c.in-Some-last.job _ _ c.in-Some-last.is c.in-Some-join_one.ensures.unstarted);
  as_many = (search rules, search rules);
}

pub loop-last-preserved-in_default-last : goal.loop-last-preserved-in_default-last
loop-last-preserved-in_default-last g c = record {
  so_far = joined_more g.L.Link.identity (λ job out. HandsOver g.L.Link.identity g.F.ServerServiceFactory.may_serve g.F.ServerServiceFactory.may_leave g.F.ServerServiceFactory.may_ready g.F.ServerServiceFactory.may_init g.F.ServerServiceFactory.may_make job out) (λ all. all) _ _ _ _ _
      (rows_popped _ _ _ _ _ _ c.in-Some-pop.producer c.in-Some-pop-2.consumer c.in-Some.last c.in-Some-pop.ensures.items c.in-Some-pop-2.ensures.items c.in-Some.ensures.items c.loop-last.invariant.as_many.0 c.loop-last.invariant.as_many.1)
      c.loop-last.invariant.so_far;
  as_many = (search rules, search rules);
}
