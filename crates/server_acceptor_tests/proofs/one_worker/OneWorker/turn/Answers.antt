use Rattle.std.proofs.Common.{◌∙◌, ◌<◌, ap, subst, sym}
use Rattle.std.specs.FinSet as set
use Rattle.server_acceptor.specs.Acceptors.{core_of, events_of}
use Rattle.server_core.specs.Core.{Core}
use Rattle.server_acceptor_tests.proofs.OneRing.{retired_all}
use Rattle.server_acceptor_tests.proofs.one_worker.OneWorker.turn.Goals as goal

pub invariant_of-self-clause-one : goal.invariant_of-self-clause-one
invariant_of-self-clause-one c = c.turn.ensures.does.acts.workers ∙ c.args.self.now.one

pub invariant_of-self-clause-as_many : goal.invariant_of-self-clause-as_many
invariant_of-self-clause-as_many c = c.turn.ensures.does.acts.as_many ∙ c.args.self.now.as_many ∙ sym c.turn.ensures.does.acts.listeners

pub invariant_of-self-clause-to_it : goal.invariant_of-self-clause-to_it
invariant_of-self-clause-to_it c = c.turn.ensures.does.acts.rings.parcels ∙ c.args.self.now.to_it

pub invariant_of-self-clause-from_it : goal.invariant_of-self-clause-from_it
invariant_of-self-clause-from_it c = c.turn.ensures.does.acts.rings.notes ∙ c.args.self.now.from_it

pub invariant_of-self-clause-kept : goal.invariant_of-self-clause-kept
invariant_of-self-clause-kept c = ap (λ (s : Core). set.contains s.retired 0) c.turn.ensures.does.acts.logged.core ∙ ap (λ r. set.contains r 0) (retired_all (core_of c.args.self.now.acceptor) (events_of c.turn.new.self) c.turn.ensures.does.of_use) ∙ c.args.self.now.kept

pub returns-clause-ended : goal.returns-clause-ended
returns-clause-ended c w is = let e = c.turn.ensures.worker_ended w is in (subst (λ k. w < k) (c.turn.ensures.does.acts.workers ∙ c.args.self.now.one) e.0, e.1)
