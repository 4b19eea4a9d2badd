use Rattle.handlers.proofs.Ways.{echoed_end, echoes_taken}
use Rattle.handlers.proofs.read_more.read_more.Goals as goal

pub returns-in-Ready-Ok-eq0-clause-turns : goal.returns-in-Ready-Ok-eq0-clause-turns
returns-in-Ready-Ok-eq0-clause-turns g c =
    let read = rw (c.in-Ready-Ok-eq0.field-0-is, c.in-Ready-Ok-eq0.field-0-0-test) at c.in-Ready-Ok-eq0.ensures in
    echoed_end g.L.Link c.args.link.now c.poll_read.new.self c.args.waiting.now c.poll_read.new.buf c.requires read.identity read.written read.answer

pub returns-in-Ok-clause-turns : goal.returns-in-Ok-clause-turns
returns-in-Ok-clause-turns g c =
    let read = rw c.in-Ready-Ok.field-0-is at c.in-Ready-Ok.ensures in
    record {
      echoes = rw c.in-Ok.ensures.ok (echoes_taken g.L.Link c.args.link.now c.poll_read.new.self c.args.waiting.now c.in-Ready-Ok.count c.poll_read.new.buf read.identity read.written read.answer);
      read_faults = read.read_faults;
      write_faults = read.write_faults;
    }

pub returns-in-Err-clause-turns : goal.returns-in-Err-clause-turns
returns-in-Err-clause-turns g c =
    let read = rw c.in-Ready-Ok.field-0-is at c.in-Ready-Ok.ensures in
    record { left = _; echoes = echoes_taken g.L.Link c.args.link.now c.poll_read.new.self c.args.waiting.now c.in-Ready-Ok.count c.poll_read.new.buf read.identity read.written read.answer; ends = tt }
