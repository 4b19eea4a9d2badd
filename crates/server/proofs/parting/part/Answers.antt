use Rattle.std.proofs.Common.{◌∙◌, [], None, Some, false, slice_set, ap, refl, subst, sym}
use Rattle.server_acceptor.specs.Acceptors.{notes_of, parcels_of}
use Rattle.server_core.specs.Core.{Core, in_order}
use Rattle.server_jobs.specs.Jobs.{job_of}
use Rattle.server.proofs.FinishSteps.{none_of}
use Rattle.server.proofs.PartSteps.{from_first, to_first}
use Rattle.server.proofs.PlaceSteps.{at_taken, came_left, keeps_left, set_as_was}
use Rattle.server.proofs.TakeBackSteps.{goes_none, goes_trans, leaves_trans}
use Rattle.worker_job.specs.Promise.{HandsOver}
use Rattle.server.proofs.parting.part.Goals as goal

pub look_beside-requires-clause-to_it : goal.look_beside-requires-clause-to_it
look_beside-requires-clause-to_it g c =
    to_first g.F.ServerServiceFactory.may_serve g.F.ServerServiceFactory.may_leave g.F.ServerServiceFactory.may_ready g.F.ServerServiceFactory.may_init g.F.ServerServiceFactory.may_make g.Li.Link.Link.identity c.args.acceptor.now c.args.w c.requires.number.0 c.args.running.now.items c.in-Some.ended c.requires.over (at_taken c.args.running.now.items c.args.w c.index_mut.result.now c.requires.number.1 c.index_mut.ensures.value ∙ ap (λ x. Some x) (sym c.take.ensures.value ∙ c.in-Some.is)) c.into_handed-handed.result (subst (λ x. HandsOver g.Li.Link.Link.identity g.F.ServerServiceFactory.may_serve g.F.ServerServiceFactory.may_leave g.F.ServerServiceFactory.may_ready g.F.ServerServiceFactory.may_init g.F.ServerServiceFactory.may_make (job_of c.in-Some.ended) x) (sym c.into_handed-handed.ensures) c.join.ensures) (parcels_of c.leave.new.self) c.leave.ensures.parcels

pub look_beside-requires-clause-from_it : goal.look_beside-requires-clause-from_it
look_beside-requires-clause-from_it g c =
    from_first g.F.ServerServiceFactory.may_serve g.F.ServerServiceFactory.may_leave g.F.ServerServiceFactory.may_ready g.F.ServerServiceFactory.may_init g.F.ServerServiceFactory.may_make g.Li.Link.Link.identity c.args.acceptor.now c.args.w c.requires.number.0 c.args.running.now.items c.in-Some.ended c.requires.over (at_taken c.args.running.now.items c.args.w c.index_mut.result.now c.requires.number.1 c.index_mut.ensures.value ∙ ap (λ x. Some x) (sym c.take.ensures.value ∙ c.in-Some.is)) c.into_handed-handed.result (subst (λ x. HandsOver g.Li.Link.Link.identity g.F.ServerServiceFactory.may_serve g.F.ServerServiceFactory.may_leave g.F.ServerServiceFactory.may_ready g.F.ServerServiceFactory.may_init g.F.ServerServiceFactory.may_make (job_of c.in-Some.ended) x) (sym c.into_handed-handed.ensures) c.join.ensures) (notes_of c.leave.new.self) c.leave.ensures.notes

pub returns-in_default-clause-none : goal.returns-in_default-clause-none
returns-in_default-clause-none g c none =
    let at = at_taken c.args.running.now.items c.args.w c.index_mut.result.now c.requires.number.1 c.index_mut.ensures.value ∙ ap (λ x. Some x) (sym c.take.ensures.value ∙ none_of c.take.result c.in_default.not-Some) in
    (refl, at, ap (slice_set c.args.running.now.items c.args.w) c.take.ensures.after ∙ set_as_was c.args.running.now.items c.args.w None at)

pub returns-in_default-clause-goes : goal.returns-in_default-clause-goes
returns-in_default-clause-goes g c done fits =
    goes_none g.Li.Listener.given g.Li.Listener.left g.Li.Listener.rest g.Li.Link.Link.identity g.Li.Listener.ended g.Li.Listener.faults g.Do.Done.taken g.Do.Done.count g.Do.Done.served c.args.acceptor.now done fits

pub returns-clause-goes : goal.returns-clause-goes
returns-clause-goes g c done fits =
    goes_trans g.Li.Listener.given g.Li.Listener.left g.Li.Listener.rest g.Li.Link.Link.identity g.Li.Listener.ended g.Li.Listener.faults g.Do.Done.taken g.Do.Done.count g.Do.Done.served c.args.acceptor.now c.leave.new.self c.look_beside.new.self done done done false (λ ls. c.leave.ensures.acts ls done) (λ ls. ([], c.look_beside.ensures.acts ls done))

pub returns-clause-parted : goal.returns-clause-parted
returns-clause-parted g c done =
    record {
      ended = c.in-Some.ended;
      was = at_taken c.args.running.now.items c.args.w c.index_mut.result.now c.requires.number.1 c.index_mut.ensures.value ∙ ap (λ x. Some x) (sym c.take.ensures.value ∙ c.in-Some.is);
      vacant = ap (slice_set c.args.running.now.items c.args.w) c.take.ensures.after;
      out = c.into_handed-handed.result;
      promised = subst (λ x. HandsOver g.Li.Link.Link.identity g.F.ServerServiceFactory.may_serve g.F.ServerServiceFactory.may_leave g.F.ServerServiceFactory.may_ready g.F.ServerServiceFactory.may_init g.F.ServerServiceFactory.may_make (job_of c.in-Some.ended) x) (sym c.into_handed-handed.ensures) c.join.ensures;
      inward = c.look_beside.ensures.parcels;
      outward = c.look_beside.ensures.notes;
      same = (refl, refl, refl, refl);
      to_it = c.look_beside.ensures.to_it;
      from_it = c.look_beside.ensures.from_it;
      pair_to = c.look_beside.ensures.pair_to;
      pair_from = c.look_beside.ensures.pair_from;
      came = came_left c.args.w c.args.acceptor.now c.leave.new.self c.look_beside.new.self c.leave.ensures.notes c.look_beside.ensures.received;
      off = ap (λ (s : Core). in_order s.order c.args.w) c.look_beside.ensures.core ∙ c.leave.ensures.left;
      out_same = ap (λ (s : Core). s.out) c.look_beside.ensures.core ∙ c.leave.ensures.out;
      retired = ap (λ (s : Core). s.retired) c.look_beside.ensures.core ∙ c.leave.ensures.retired;
      waits = c.look_beside.ensures.waiting ∙ c.leave.ensures.waiting;
      keeps = keeps_left c.args.w c.args.acceptor.now c.leave.new.self c.look_beside.new.self c.leave.ensures.parcels c.leave.ensures.notes c.leave.ensures.others c.leave.ensures.retired (c.look_beside.ensures.acts [] done).rings.parcels (c.look_beside.ensures.acts [] done).rings.notes c.look_beside.ensures.rest.sent c.look_beside.ensures.received c.look_beside.ensures.core;
      rest = leaves_trans c.args.acceptor.now c.leave.new.self c.look_beside.new.self c.leave.ensures.rest c.look_beside.ensures.rest;
    }
