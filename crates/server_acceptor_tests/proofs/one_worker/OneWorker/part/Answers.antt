use Rattle.std.proofs.Common.{◌∙◌, ◌<◌, ◌∷◌, [], map, ap, arith, subst, sym}
use Rattle.std.specs.Prelude.{slice_index_or}
use Rattle.std.specs.FinSet as set
use Rattle.rtrb.specs.Ring.{received}
use Rattle.server_acceptor.specs.Acceptors.{notes_of, parcels_of}
use Rattle.server_acceptor.specs.Rings.{ring_in, ring_out}
use Rattle.server_core.specs.Core.{Core, in_order}
use Rattle.server_acceptor.proofs.BesideSteps.{received_both}
use Rattle.server_acceptor_tests.proofs.OneRing.{pair_from, pair_to, same_in, same_out}
use Rattle.server_acceptor_tests.proofs.one_worker.OneWorker.part.Goals as goal

pub look_beside-requires-clause-number : goal.look_beside-requires-clause-number
look_beside-requires-clause-number c = subst (λ k. 0 < k) (sym (c.leave.ensures.rest.workers ∙ c.args.self.one)) (omega arith)

pub look_beside-requires-clause-to_it : goal.look_beside-requires-clause-to_it
look_beside-requires-clause-to_it c = pair_to c.args.self.parcels (parcels_of c.leave.new.self) (ap (λ ps. map ring_in ps) c.leave.ensures.parcels ∙ c.args.self.to_it)

pub look_beside-requires-clause-from_it : goal.look_beside-requires-clause-from_it
look_beside-requires-clause-from_it c = pair_from c.args.self.notes (notes_of c.leave.new.self) (ap (λ ns. map ring_out ns) c.leave.ensures.notes ∙ c.args.self.from_it)

pub invariant_of-result-clause-one : goal.invariant_of-result-clause-one
invariant_of-result-clause-one c = c.look_beside.ensures.rest.workers ∙ c.leave.ensures.rest.workers ∙ c.args.self.one

pub invariant_of-result-clause-as_many : goal.invariant_of-result-clause-as_many
invariant_of-result-clause-as_many c = c.args.self.as_many ∙ sym (c.look_beside.ensures.rest.listeners ∙ c.leave.ensures.rest.listeners)

pub invariant_of-result-clause-to_it : goal.invariant_of-result-clause-to_it
invariant_of-result-clause-to_it c = (c.look_beside.ensures.acts [] c.args.self.book).rings.parcels ∙ ap (λ ps. map ring_in ps) c.leave.ensures.parcels ∙ c.args.self.to_it ∙ ap (λ r. r ∷ []) (sym (same_out c.args.self.parcels c.look_beside.new.parcels c.look_beside.ensures.parcels.0))

pub invariant_of-result-clause-from_it : goal.invariant_of-result-clause-from_it
invariant_of-result-clause-from_it c = (c.look_beside.ensures.acts [] c.args.self.book).rings.notes ∙ ap (λ ns. map ring_out ns) c.leave.ensures.notes ∙ c.args.self.from_it ∙ ap (λ r. r ∷ []) (sym (same_in c.args.self.notes c.look_beside.new.notes c.look_beside.ensures.notes.0))

pub invariant_of-result-clause-place : goal.invariant_of-result-clause-place
invariant_of-result-clause-place c = subst (λ k. 0 < k) (sym c.look_beside.ensures.notes.0.1) c.args.self.place

pub invariant_of-result-clause-kept : goal.invariant_of-result-clause-kept
invariant_of-result-clause-kept c = ap (λ (s : Core). set.contains s.retired 0) c.look_beside.ensures.core ∙ ap (λ r. set.contains r 0) c.leave.ensures.retired ∙ c.args.self.kept

pub returns-clause-left : goal.returns-clause-left
returns-clause-left c = ap (λ (s : Core). in_order s.order 0) c.look_beside.ensures.core ∙ c.leave.ensures.left

pub returns-clause-came : goal.returns-clause-came
returns-clause-came c = received_both (notes_of c.args.self.acceptor) (notes_of c.look_beside.new.self) 0 (c.look_beside.ensures.received ∙ ap (λ ns. map (λ x. received x) ns) c.leave.ensures.notes)

pub invariant_of-result-clause-given : goal.invariant_of-result-clause-given
invariant_of-result-clause-given c t = let e = ap (λ ps. slice_index_or ps t 0) (c.look_beside.ensures.rest.places ∙ c.leave.ensures.rest.places) in let old = c.args.self.given t in omega (arith, e, old)
