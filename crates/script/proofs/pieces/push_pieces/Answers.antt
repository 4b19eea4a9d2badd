use Rattle.std.proofs.Common.{◌<◌, ◌∙◌, length, length-append, arith}
use Rattle.std.proofs.lemmas.Bool.Decides.{nat_tests}
use Rattle.std.proofs.lemmas.List.{take-append-le}
use Rattle.script.proofs.Cutting.{one_given}
use Rattle.script.proofs.pieces.push_pieces.Goals as goal

pub loop-rest-preserved : goal.loop-rest-preserved
loop-rest-preserved c =
    let so_far = c.loop-rest.invariant in
    let pushed = c.in_default.ensures.ok in
    let rest = c.loop-rest.rest.now in
    let some : 0 < length rest = grind (arith, nat_tests) in
    record {
      given = rw (pushed, c.split_at.ensures.front, c.split_at.ensures.back, c.min.ensures)
          (one_given c.args.cut c.args.reads.now.items c.loop-rest.reads.items c.args.bytes.now rest c.requires so_far.given some);
      kept = rw pushed (take-append-le c.len-had.result c.loop-rest.reads.items _ so_far.held ∙ so_far.kept);
      held = rw (pushed, length-append) (omega (arith, so_far.held));
    }
