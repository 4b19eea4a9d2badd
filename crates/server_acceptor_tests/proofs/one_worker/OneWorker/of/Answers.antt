use Rattle.std.proofs.Common.{◌+◌, ◌≡◌, ◌∙◌, ◌∷◌, [], length, map, ap, arith, sym}
use Rattle.std.specs.Prelude.{sum, slice_index_or}
use Rattle.std.specs.FinSet as set
use Rattle.server_acceptor.specs.Rings.{ring_in, ring_out}
use Rattle.server_acceptor.specs.Acceptors.{out_of}
use Rattle.server_core.specs.Core.{held, Core}
use Rattle.server_acceptor_tests.proofs.OneRing.{zeros, one_name, same_in}
use Rattle.server_acceptor_tests.proofs.one_worker.OneWorker.of.Goals as goal

pub invariant_of-result-clause-one : goal.invariant_of-result-clause-one
invariant_of-result-clause-one c = ap (λ (s : Core). length s.out) c.in_ok-acceptor.ensures.core

pub invariant_of-result-clause-given : goal.invariant_of-result-clause-given
invariant_of-result-clause-given c t = let e = ap (λ ps. slice_index_or ps t 0) c.in_ok-acceptor.ensures.places ∙ zeros t in omega (arith, e)

pub invariant_of-result-clause-spare : goal.invariant_of-result-clause-spare
invariant_of-result-clause-spare c = let e : out_of c.in_ok-acceptor.acceptor ≡ 0 = ap (λ (s : Core). sum s.out + held s.waiting) c.in_ok-acceptor.ensures.core in omega (arith, e)

pub invariant_of-result-clause-to_it : goal.invariant_of-result-clause-to_it
invariant_of-result-clause-to_it c = ap (λ ps. map ring_in ps) c.in_ok-acceptor.ensures.producers ∙ ap (λ r. r ∷ []) (one_name c.in_ok-into.into c.in_ok-into.parcels c.in_ok-into.ensures.pair)

pub invariant_of-result-clause-from_it : goal.invariant_of-result-clause-from_it
invariant_of-result-clause-from_it c = ap (λ ns. map ring_out ns) c.in_ok-acceptor.ensures.consumers ∙ ap (λ r. r ∷ []) (sym (one_name c.in_ok-notes.notes c.in_ok-notes.out c.in_ok-notes.ensures.pair) ∙ sym (same_in c.in_ok-notes.notes c.push_reserved.new.self c.push_reserved.ensures.ring))

pub invariant_of-result-clause-place : goal.invariant_of-result-clause-place
invariant_of-result-clause-place c = let same = c.push_reserved.ensures.ring.1 in let eight = c.in_ok-notes.ensures.producer.2 in omega (arith, same, eight)

pub invariant_of-result-clause-kept : goal.invariant_of-result-clause-kept
invariant_of-result-clause-kept c = ap (λ (s : Core). set.contains s.retired 0) c.in_ok-acceptor.ensures.core ∙ set.contains-empty _ 0
