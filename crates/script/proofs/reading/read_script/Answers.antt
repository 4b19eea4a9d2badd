use Rattle.std.proofs.Common.{◌==◌, ◌+◌, arith, rules, sym, ap}
use Rattle.std.proofs.lemmas.List.{length_push}
use Rattle.std.proofs.lemmas.List.Splits.{length-slice_split}
use Rattle.std.proofs.lemmas.List.Sums.{count_by-le-length}
use Rattle.std.proofs.lemmas.Iterator.Splits.{YieldsList-from_slice_split}
use Rattle.std.proofs.lemmas.Iterator.Consumers.{YieldsList-turn, YieldsList-end}
use Rattle.script.proofs.Lines.{read_bad, read_on, read_all}
use Rattle.script.proofs.reading.read_script.Goals as goal

pub returns-then-not-taken : goal.returns-then-not-taken
returns-then-not-taken c =
    let here = YieldsList-turn (YieldsList-from_slice_split _ (λ b. b == 10) c.args.bytes.now (cc) (cc) (cc) (λ x b q called. search rules)) c.loop-line.yielded _ c.loop-line.yielded_by _ _ c.in-Some.line c.in-Some.is c.next.ensures.steps in
    rw c.loop-line.invariant.counted (sym (read_bad _ _ _ _ c.loop-line.invariant.so_far _ here (sym (rw c.if-not-taken.true at c.in_ok-taken.ensures))))

pub loop-line-preserved : goal.loop-line-preserved
loop-line-preserved c =
    let here = YieldsList-turn (YieldsList-from_slice_split _ (λ b. b == 10) c.args.bytes.now (cc) (cc) (cc) (λ x b q called. search rules)) c.loop-line.yielded _ c.loop-line.yielded_by _ _ c.in-Some.line c.in-Some.is c.next.ensures.steps in
    record {
      counted = rw length_push (ap (λ n. n + 1) c.loop-line.invariant.counted);
      so_far = rw length_push (read_on _ _ _ _ c.loop-line.invariant.so_far _ here _ (sym (rw c.if-not-taken.false at c.in_ok-taken.ensures)));
    }

pub returns : goal.returns
returns c =
    let end = YieldsList-end (YieldsList-from_slice_split _ (λ b. b == 10) c.args.bytes.now (cc) (cc) (cc) (λ x b q called. search rules)) c.loop-line.yielded _ c.loop-line.yielded_by _ _ c.in-None.is c.next.ensures.steps in
    sym (read_all _ _ _ _ c.loop-line.invariant.so_far end.1)

pub overflow_add-number : goal.overflow_add-number
overflow_add-number c =
    let here = YieldsList-turn (YieldsList-from_slice_split _ (λ b. b == 10) c.args.bytes.now (cc) (cc) (cc) (λ x b q called. search rules)) c.loop-line.yielded _ c.loop-line.yielded_by _ _ c.in-Some.line c.in-Some.is c.next.ensures.steps in
    let all = length-slice_split (λ b. b == 10) c.args.bytes.now in
    let most = count_by-le-length (λ b. b == 10) c.args.bytes.now in
    omega (arith, here.0, all, most, c.loop-line.invariant.counted)
