use Rattle.std.proofs.Common.{rules}
use Rattle.http1_dispatcher.proofs.Ways.{flushed_more}
use Rattle.http1_dispatcher.proofs.flush.flush.Goals as goal

pub loop-link-preserved : goal.loop-link-preserved
loop-link-preserved g c =
    let wrote = rw (c.in-Ready-Ok.field-0-is, c.as_bytes.ensures) at c.in-Ready-Ok.ensures.answer in
    record {
      flushed = rw c.drop_front.ensures (flushed_more g.L.Link _ _ _ _ _ _ c.loop-link.invariant.flushed
          c.poll_write.ensures.identity
          wrote.2 c.poll_write.ensures.taken c.poll_write.ensures.read_faults c.poll_write.ensures.read_waits);
      faults = search rules;
      waits = search rules;
      kept = search rules;
    }
