use Rattle.std.proofs.Common.{◌≤◌, ◌∙◌, Some, ap, length, length-take, arith}
use Rattle.std.proofs.lemmas.List.{take_rest}
use Rattle.server_program.proofs.Flow.{hands_part}
use Rattle.server_program.proofs.io.memory_source.MemorySourceSource.read.Goals as goal

pub returns-clause-bytes : goal.returns-clause-bytes
returns-clause-bytes c =
    let part = rw (c.as_bytes.ensures, take_rest) at c.copy_from_slice.ensures.after in
    let fits : c.min-n.result ≤ length c.args.buf.now = omega arith in
    let len = c.copy_from_slice.ensures.len ∙ length-take c.min-n.result c.args.buf.now in
    ap Some (hands_part c.args.self.now.bytes c.args.self.now.taken c.min-n.result c.copy_from_slice.new.self _ part (omega (arith, len)))
