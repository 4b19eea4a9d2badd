use Rattle.std.proofs.Common.{ℕ, length-take, length-drop, arith}
use Rattle.http1_head.proofs.ScanSteps.{skip_step, skip_end}
use Rattle.http1_head.proofs.scan.empty_lines.Goals as goal

pub loop-len-preserved : goal.loop-len-preserved
loop-len-preserved c = record {
  within = let w = c.in-Some.ensures.within in omega (arith, c.in-Some.ensures.within, c.loop-len.invariant.within, length-take {A = ℕ}, length-drop {A = ℕ});
  rest = skip_step c.args.bytes.now c.loop-len.at c.in-Some.len c.in-Some.ensures.value c.loop-len.invariant.rest;
}

pub returns-clause-rest : goal.returns-clause-rest
returns-clause-rest c = skip_end c.args.bytes.now c.loop-len.at c.in_default.ensures.value c.loop-len.invariant.rest
