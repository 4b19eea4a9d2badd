use Rattle.std.proofs.Common.{rules}
use Rattle.handlers.proofs.Ways.{steps_more, steps_start, steps_write}
use Rattle.handlers.proofs.write_back.write_back.Goals as goal

pub loop-link-init : goal.loop-link-init
loop-link-init g c = record { steps = steps_start g.L.Link c.args.link.now c.args.waiting.now; kept = λ fact h. h }

pub loop-link-preserved : goal.loop-link-preserved
loop-link-preserved g c =
    let wrote = rw (c.in-Ready-Ok.field-0-is, c.as_bytes.ensures) at c.in-Ready-Ok.ensures in
    record {
      steps = rw c.drop_front.ensures (steps_more g.L.Link _ _ _ _ _ _ c.loop-link.invariant.steps
          (steps_write g.L.Link c.loop-link.link c.poll_write.new.self c.loop-link.waiting c.in-Ready-Ok.count wrote.identity
          wrote.answer.2 wrote.taken wrote.read_faults wrote.write_faults));
      kept = search rules;
    }
