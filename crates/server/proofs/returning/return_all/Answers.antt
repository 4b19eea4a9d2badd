use Rattle.std.specs.Prelude.{⊤}
use Rattle.std.proofs.Common.{subst, sym, ◌∙◌, rules}
use Rattle.server_jobs.specs.Joins.{IsLine}
use Rattle.worker_job.specs.Promise.{HandsOver}
use Rattle.server.specs.Returning.{Returned}
use Rattle.server.specs.Rows.{by_job, line_of}
use Rattle.server.proofs.Bringing.{returned_all, returned_more, returned_next, returned_none, returned_room, returned_same}
use Rattle.server.proofs.FinishSteps.{none_of}
use Rattle.server.proofs.Rows.{rows_length, rows_none, rows_popped}
use Rattle.server.proofs.returning.return_all.Goals as goal

pub loop-last-init : goal.loop-last-init
loop-last-init g c = record {
  so_far = returned_none g.L.Link.identity (λ job out. HandsOver g.L.Link.identity g.F.ServerServiceFactory.may_serve g.F.ServerServiceFactory.may_leave g.F.ServerServiceFactory.may_ready g.F.ServerServiceFactory.may_init g.F.ServerServiceFactory.may_make job out) (λ all. all)
      g.Do.Done.taken g.Do.Done.count g.Do.Done.served g.Do.Done.spare _ c.args.done.now (g.met.Do.Done.small c.args.done.now) c.requires.lines c.requires.fewer c.requires.room;
  as_many = c.requires.as_many;
}

pub return_one-requires-clause-line : goal.return_one-requires-clause-line
return_one-requires-clause-line g c κs within =
    subst (λ r. by_job (IsLine g.L.Link.identity (λ job out. HandsOver g.L.Link.identity g.F.ServerServiceFactory.may_serve g.F.ServerServiceFactory.may_leave g.F.ServerServiceFactory.may_ready g.F.ServerServiceFactory.may_init g.F.ServerServiceFactory.may_make job out) (λ all. all)) (λ p n. ⊤) c.in-Some-pop.producer c.in-Some-pop-2.consumer r) c.in-Some-last.is
    (returned_next g.L.Link.identity (λ job out. HandsOver g.L.Link.identity g.F.ServerServiceFactory.may_serve g.F.ServerServiceFactory.may_leave g.F.ServerServiceFactory.may_ready g.F.ServerServiceFactory.may_init g.F.ServerServiceFactory.may_make job out) (λ all. all)
    g.Do.Done.taken g.Do.Done.count g.Do.Done.served g.Do.Done.spare _ _ _ _ _ _
    (rows_popped _ _ _ _ _ _ c.in-Some-pop.producer c.in-Some-pop-2.consumer c.in-Some.last c.in-Some-pop.ensures.items c.in-Some-pop-2.ensures.items c.in-Some.ensures.items c.loop-last.invariant.as_many.0 c.loop-last.invariant.as_many.1)
    c.loop-last.invariant.so_far)

pub return_one-requires-clause-room : goal.return_one-requires-clause-room
return_one-requires-clause-room g c κs within =
    returned_room g.L.Link.identity (λ job out. HandsOver g.L.Link.identity g.F.ServerServiceFactory.may_serve g.F.ServerServiceFactory.may_leave g.F.ServerServiceFactory.may_ready g.F.ServerServiceFactory.may_init g.F.ServerServiceFactory.may_make job out) (λ all. all)
    g.Do.Done.taken g.Do.Done.count g.Do.Done.served g.Do.Done.spare _ _ _ _ _ _
    (rows_popped _ _ _ _ _ _ c.in-Some-pop.producer c.in-Some-pop-2.consumer c.in-Some.last c.in-Some-pop.ensures.items c.in-Some-pop-2.ensures.items c.in-Some.ensures.items c.loop-last.invariant.as_many.0 c.loop-last.invariant.as_many.1)
    c.loop-last.invariant.so_far

pub loop-last-preserved : goal.loop-last-preserved
loop-last-preserved g c = record {
  so_far = returned_more g.L.Link.identity (λ job out. HandsOver g.L.Link.identity g.F.ServerServiceFactory.may_serve g.F.ServerServiceFactory.may_leave g.F.ServerServiceFactory.may_ready g.F.ServerServiceFactory.may_init g.F.ServerServiceFactory.may_make job out) (λ all. all)
      g.Do.Done.taken g.Do.Done.count g.Do.Done.served g.Do.Done.spare _ _ _ _ _ _
      (rows_popped _ _ _ _ _ _ c.in-Some-pop.producer c.in-Some-pop-2.consumer c.in-Some.last c.in-Some-pop.ensures.items c.in-Some-pop-2.ensures.items c.in-Some.ensures.items c.loop-last.invariant.as_many.0 c.loop-last.invariant.as_many.1)
      c.loop-last.invariant.so_far _ c.in-Some-last.job c.in-Some-last.is
      (subst (λ n. Returned g.L.Link.identity (λ job out. HandsOver g.L.Link.identity g.F.ServerServiceFactory.may_serve g.F.ServerServiceFactory.may_leave g.F.ServerServiceFactory.may_ready g.F.ServerServiceFactory.may_init g.F.ServerServiceFactory.may_make job out) (λ all. all) g.Do.Done.taken g.Do.Done.count g.Do.Done.served g.Do.Done.spare n (line_of c.in-Some-pop.producer c.in-Some-pop-2.consumer c.in-Some-last.job) c.loop-last.done c.return_one.new.done)
      (search rules ∙ sym (rows_length c.pop-in-Some.new.self.items c.pop-in-Some-2.new.self.items c.pop.new.self.items (search rules) (search rules))) c.return_one.ensures);
  as_many = (search rules, search rules);
}

pub returns : goal.returns
returns g c =
    returned_all g.L.Link.identity (λ job out. HandsOver g.L.Link.identity g.F.ServerServiceFactory.may_serve g.F.ServerServiceFactory.may_leave g.F.ServerServiceFactory.may_ready g.F.ServerServiceFactory.may_init g.F.ServerServiceFactory.may_make job out) (λ all. all)
    g.Do.Done.taken g.Do.Done.count g.Do.Done.served g.Do.Done.spare _ _ _ _
    (rows_none _ _ _ (search rules) c.loop-last.invariant.as_many.0) c.loop-last.invariant.so_far

pub loop-last-preserved-in_default-last : goal.loop-last-preserved-in_default-last
loop-last-preserved-in_default-last g c = record {
  so_far = returned_same g.L.Link.identity (λ job out. HandsOver g.L.Link.identity g.F.ServerServiceFactory.may_serve g.F.ServerServiceFactory.may_leave g.F.ServerServiceFactory.may_ready g.F.ServerServiceFactory.may_init g.F.ServerServiceFactory.may_make job out) (λ all. all)
      g.Do.Done.taken g.Do.Done.count g.Do.Done.served g.Do.Done.spare _ _ _ _ _ _
      (rows_popped _ _ _ _ _ _ c.in-Some-pop.producer c.in-Some-pop-2.consumer c.in-Some.last c.in-Some-pop.ensures.items c.in-Some-pop-2.ensures.items c.in-Some.ensures.items c.loop-last.invariant.as_many.0 c.loop-last.invariant.as_many.1)
      c.loop-last.invariant.so_far (g.met.Do.Done.small c.loop-last.done) (none_of c.in-Some.last c.in_default-last.not-Some);
  as_many = (search rules, search rules);
}
