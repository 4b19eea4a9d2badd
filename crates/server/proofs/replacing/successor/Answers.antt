use Rattle.std.proofs.Common.{rules, inl, inr, ◌∙◌, ◌<◌, [], false, ap, length, subst, sym}
use Rattle.server_core.specs.Core.{Core}
use Rattle.server_jobs.specs.Returning.{entries_of, entry_of_waiting}
use Rattle.server_run.specs.declared.outcome.Outcome.TheVariants.{Memory}
use Rattle.server.specs.Replacing.{MayTakeBack, TakesBack}
use Rattle.server.proofs.TakeBackSteps.{goes_trans, may_left, may_owed, may_rest, none_from, pair_there, recalled, recalled_looked, succeeds}
use Rattle.server.proofs.replacing.successor.Goals as goal

pub take_owed-requires-clause-may : goal.take_owed-requires-clause-may
take_owed-requires-clause-may g c = may_owed c.args.acceptor.now c.args.w c.args.handed c.requires.may

pub take_owed-requires-clause-founded : goal.take_owed-requires-clause-founded
take_owed-requires-clause-founded g c k d inside so = absurd (c.requires.founded k d inside so)

pub take_rest-requires-clause-may : goal.take_rest-requires-clause-may
take_rest-requires-clause-may g c =
    subst (λ xs. MayTakeBack c.take_owed.new.acceptor c.args.w c.take_owed.new.notes (length (entries_of (entry_of_waiting c.args.w) xs))) (sym c.into_iter-rest.ensures.rest)
    (may_rest c.args.acceptor.now c.args.w c.args.handed c.requires.may c.take_owed.new.acceptor c.take_owed.new.notes c.take_owed.ensures.takes)

pub take_parcels-stopped-requires-clause-may : goal.take_parcels-stopped-requires-clause-may
take_parcels-stopped-requires-clause-may g c =
    may_left c.args.acceptor.now c.args.w c.args.handed c.requires.may c.take_owed.new.acceptor c.take_owed.new.notes c.take_owed.ensures.takes c.take_rest.new.acceptor c.take_rest.new.notes (subst (λ xs. TakesBack c.take_owed.new.acceptor c.take_rest.new.acceptor c.args.w c.take_owed.new.notes c.take_rest.new.notes (entries_of (entry_of_waiting c.args.w) xs)) c.into_iter-rest.ensures.rest c.take_rest.ensures.takes) c.outcome_of_left-outcome.result

pub returns-then-is_last-clause-goes : goal.returns-then-is_last-clause-goes
returns-then-is_last-clause-goes g c =
    goes_trans g.Li.Listener.given g.Li.Listener.left g.Li.Listener.rest g.Li.Link.Link.identity g.Li.Listener.ended g.Li.Listener.faults g.Do.Done.taken g.Do.Done.count g.Do.Done.served c.args.acceptor.now c.take_rest.new.acceptor c.take_parcels-stopped.new.acceptor _ c.take_rest.new.done _ false (goes_trans g.Li.Listener.given g.Li.Listener.left g.Li.Listener.rest g.Li.Link.Link.identity g.Li.Listener.ended g.Li.Listener.faults g.Do.Done.taken g.Do.Done.count g.Do.Done.served c.args.acceptor.now c.take_owed.new.acceptor c.take_rest.new.acceptor _ c.take_owed.new.done _ false c.take_owed.ensures.goes c.take_rest.ensures.goes) c.take_parcels-stopped.ensures.goes

pub returns-then-is_last-clause-recalls : goal.returns-then-is_last-clause-recalls
returns-then-is_last-clause-recalls g c =
    recalled c.args.acceptor.now c.args.w c.args.handed c.requires.may c.take_owed.new.acceptor c.take_owed.new.notes c.take_owed.ensures.takes c.take_rest.new.acceptor c.take_rest.new.notes (subst (λ xs. TakesBack c.take_owed.new.acceptor c.take_rest.new.acceptor c.args.w c.take_owed.new.notes c.take_rest.new.notes (entries_of (entry_of_waiting c.args.w) xs)) c.into_iter-rest.ensures.rest c.take_rest.ensures.takes) c.outcome_of_left-outcome.result c.take_parcels-stopped.new.acceptor c.take_parcels-stopped.new.notes c.outcome_of_left-outcome.ensures.left c.take_parcels-stopped.ensures.takes

pub look_beside-requires-clause-number : goal.look_beside-requires-clause-number
look_beside-requires-clause-number g c =
    let recalls = recalled c.args.acceptor.now c.args.w c.args.handed c.requires.may c.take_owed.new.acceptor c.take_owed.new.notes c.take_owed.ensures.takes c.take_rest.new.acceptor c.take_rest.new.notes (subst (λ xs. TakesBack c.take_owed.new.acceptor c.take_rest.new.acceptor c.args.w c.take_owed.new.notes c.take_rest.new.notes (entries_of (entry_of_waiting c.args.w) xs)) c.into_iter-rest.ensures.rest c.take_rest.ensures.takes) c.outcome_of_left-outcome.result c.take_parcels-stopped.new.acceptor c.take_parcels-stopped.new.notes c.outcome_of_left-outcome.ensures.left c.take_parcels-stopped.ensures.takes in
    subst (λ k. c.args.w < k) (sym recalls.takes.rest.workers) (c.requires.may Memory).number

pub look_beside-requires-clause-to_it : goal.look_beside-requires-clause-to_it
look_beside-requires-clause-to_it g c =
    let recalls = recalled c.args.acceptor.now c.args.w c.args.handed c.requires.may c.take_owed.new.acceptor c.take_owed.new.notes c.take_owed.ensures.takes c.take_rest.new.acceptor c.take_rest.new.notes (subst (λ xs. TakesBack c.take_owed.new.acceptor c.take_rest.new.acceptor c.args.w c.take_owed.new.notes c.take_rest.new.notes (entries_of (entry_of_waiting c.args.w) xs)) c.into_iter-rest.ensures.rest c.take_rest.ensures.takes) c.outcome_of_left-outcome.result c.take_parcels-stopped.new.acceptor c.take_parcels-stopped.new.notes c.outcome_of_left-outcome.ensures.left c.take_parcels-stopped.ensures.takes in
    pair_there c.args.acceptor.now c.take_parcels-stopped.new.acceptor c.args.w c.args.handed.parcels c.take_parcels-stopped.new.parcels recalls.takes.rings.0 c.take_parcels-stopped.ensures.same c.requires.to_it

pub returns-clause-goes : goal.returns-clause-goes
returns-clause-goes g c =
    goes_trans g.Li.Listener.given g.Li.Listener.left g.Li.Listener.rest g.Li.Link.Link.identity g.Li.Listener.ended g.Li.Listener.faults g.Do.Done.taken g.Do.Done.count g.Do.Done.served c.args.acceptor.now c.take_parcels-stopped.new.acceptor c.look_beside.new.self _ c.take_parcels-stopped.new.done _ false
    (goes_trans g.Li.Listener.given g.Li.Listener.left g.Li.Listener.rest g.Li.Link.Link.identity g.Li.Listener.ended g.Li.Listener.faults g.Do.Done.taken g.Do.Done.count g.Do.Done.served c.args.acceptor.now c.take_rest.new.acceptor c.take_parcels-stopped.new.acceptor _ c.take_rest.new.done _ false (goes_trans g.Li.Listener.given g.Li.Listener.left g.Li.Listener.rest g.Li.Link.Link.identity g.Li.Listener.ended g.Li.Listener.faults g.Do.Done.taken g.Do.Done.count g.Do.Done.served c.args.acceptor.now c.take_owed.new.acceptor c.take_rest.new.acceptor _ c.take_owed.new.done _ false c.take_owed.ensures.goes c.take_rest.ensures.goes) c.take_parcels-stopped.ensures.goes)
    (λ ls. ([], c.look_beside.ensures.acts ls c.take_parcels-stopped.new.done))

pub returns-clause-recalls : goal.returns-clause-recalls
returns-clause-recalls g c =
    let acts = c.look_beside.ensures.acts [] c.take_parcels-stopped.new.done in
    recalled_looked c.args.acceptor.now c.take_parcels-stopped.new.acceptor c.look_beside.new.self c.args.w c.args.handed c.look_beside.new.notes
    (recalled c.args.acceptor.now c.args.w c.args.handed c.requires.may c.take_owed.new.acceptor c.take_owed.new.notes c.take_owed.ensures.takes c.take_rest.new.acceptor c.take_rest.new.notes (subst (λ xs. TakesBack c.take_owed.new.acceptor c.take_rest.new.acceptor c.args.w c.take_owed.new.notes c.take_rest.new.notes (entries_of (entry_of_waiting c.args.w) xs)) c.into_iter-rest.ensures.rest c.take_rest.ensures.takes) c.outcome_of_left-outcome.result c.take_parcels-stopped.new.acceptor c.take_parcels-stopped.new.notes c.outcome_of_left-outcome.ensures.left c.take_parcels-stopped.ensures.takes)
    c.look_beside.ensures.notes c.look_beside.ensures.pair_from acts.rings.parcels acts.rings.notes c.look_beside.ensures.received c.look_beside.ensures.core c.look_beside.ensures.waiting c.look_beside.ensures.rest

pub returns-clause-job : goal.returns-clause-job
returns-clause-job g c =
    let recalls = recalled c.args.acceptor.now c.args.w c.args.handed c.requires.may c.take_owed.new.acceptor c.take_owed.new.notes c.take_owed.ensures.takes c.take_rest.new.acceptor c.take_rest.new.notes (subst (λ xs. TakesBack c.take_owed.new.acceptor c.take_rest.new.acceptor c.args.w c.take_owed.new.notes c.take_rest.new.notes (entries_of (entry_of_waiting c.args.w) xs)) c.into_iter-rest.ensures.rest c.take_rest.ensures.takes) c.outcome_of_left-outcome.result c.take_parcels-stopped.new.acceptor c.take_parcels-stopped.new.notes c.outcome_of_left-outcome.ensures.left c.take_parcels-stopped.ensures.takes in
    succeeds c.args.acceptor.now c.take_parcels-stopped.new.acceptor c.look_beside.new.self c.args.w c.args.listeners c.args.handed recalls c.take_parcels-stopped.new.parcels c.look_beside.new.parcels c.look_beside.new.notes c.new.result
    (c.requires.may Memory).place c.take_parcels-stopped.ensures.same c.take_parcels-stopped.ensures.taken c.look_beside.ensures.parcels c.look_beside.ensures.notes c.look_beside.ensures.received c.look_beside.ensures.pair_from c.look_beside.ensures.free
    (sym c.take_parcels-stopped.ensures.stop ∙ (c.is_last.ensures.no c.if-is_last.false).0) c.new.ensures.parcels c.new.ensures.notes c.new.ensures.factory c.new.ensures.listeners

pub returns-clause-calm : goal.returns-clause-calm
returns-clause-calm g c job is = ap (λ (s : Core). s.stopping) c.look_beside.ensures.core ∙ none_from _ (search rules)

pub returns-then-is_last-clause-none : goal.returns-then-is_last-clause-none
returns-then-is_last-clause-none g c is = elim (c.is_last.ensures.yes c.if-is_last.true) [
  | inl left ↦ inr (inl (sym c.take_parcels-stopped.ensures.stop ∙ left))
  | inr other ↦ elim other [
    | inl stopping ↦ inl (sym c.is_stopping-2.ensures ∙ stopping)
    | inr unfaulted ↦ inr (inr unfaulted)
  ]
]
