use Rattle.std.proofs.Common.{◌+◌, length, length-drop, ap, arith}
use Rattle.server_program.proofs.Flow.{gains_further, rest_further}
use Rattle.server_program.proofs.io.writing.write_all.Goals as goal

pub loop-rest-preserved : goal.loop-rest-preserved
loop-rest-preserved g c = let inv = c.loop-rest.invariant in record {
  written = inv.written + c.in_ok-n.n;
  gained = gains_further _ _ _ _ _ _ _ inv.gained inv.rest_is c.in_ok-n.ensures.got;
  rest_is = rest_further _ _ _ _ inv.rest_is c.in_ok-n.ensures.count;
  within = let l = length-drop inv.written c.args.text.now in let r = ap length inv.rest_is in omega (arith, inv.within, c.in_ok-n.ensures.count);
  faults = omega (arith, inv.faults, c.in_ok-n.ensures.failed.never_falls);
}
