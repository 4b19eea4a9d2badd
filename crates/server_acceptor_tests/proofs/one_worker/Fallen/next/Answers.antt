use Rattle.std.proofs.Common.{◌∙◌, ◌<◌, ◌∷◌, [], map, ap, arith, subst, sym}
use Rattle.std.specs.Prelude.{slice_index_or}
use Rattle.std.specs.FinSet as set
use Rattle.server_acceptor.specs.Acceptors.{notes_of}
use Rattle.server_acceptor.specs.Rings.{ring_in}
use Rattle.server_acceptor_tests.proofs.OneRing.{pair_from, same_in, same_out}
use Rattle.server_acceptor_tests.proofs.one_worker.Fallen.next.Goals as goal

pub take_back-requires-clause-from_it : goal.take_back-requires-clause-from_it
take_back-requires-clause-from_it c = pair_from c.put_back.new.self.notes (notes_of c.put_back.new.self.acceptor) c.put_back.new.self.from_it

pub invariant_of-here-clause-one : goal.invariant_of-here-clause-one
invariant_of-here-clause-one c = c.take_back.ensures.rest.workers ∙ c.put_back.new.self.one

pub invariant_of-here-clause-as_many : goal.invariant_of-here-clause-as_many
invariant_of-here-clause-as_many c = c.put_back.new.self.as_many ∙ sym c.take_back.ensures.rest.listeners

pub invariant_of-here-clause-given : goal.invariant_of-here-clause-given
invariant_of-here-clause-given c t = let e = ap (λ ps. slice_index_or ps t 0) c.take_back.ensures.rest.places in let old = c.put_back.new.self.given t in omega (arith, e, old)

pub invariant_of-here-clause-to_it : goal.invariant_of-here-clause-to_it
invariant_of-here-clause-to_it c = ap (λ ps. map ring_in ps) c.take_back.ensures.parcels ∙ c.put_back.new.self.to_it ∙ ap (λ r. r ∷ []) (sym (same_out c.put_back.new.self.parcels c.next_lost.new.parcels c.next_lost.ensures.same))

pub invariant_of-here-clause-from_it : goal.invariant_of-here-clause-from_it
invariant_of-here-clause-from_it c = (c.take_back.ensures.acts []).1.rings.notes ∙ c.put_back.new.self.from_it ∙ ap (λ r. r ∷ []) (sym (same_in c.put_back.new.self.notes c.take_back.new.notes c.take_back.ensures.same))

pub invariant_of-here-clause-place : goal.invariant_of-here-clause-place
invariant_of-here-clause-place c = subst (λ k. 0 < k) (sym c.take_back.ensures.same.1) c.put_back.new.self.place

pub invariant_of-here-clause-kept : goal.invariant_of-here-clause-kept
invariant_of-here-clause-kept c = ap (λ r. set.contains r 0) c.take_back.ensures.retired ∙ c.put_back.new.self.kept
