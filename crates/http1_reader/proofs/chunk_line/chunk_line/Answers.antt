use Rattle.std.proofs.Common.{arith, ap, ◌∙◌}
use Rattle.http1_reader.specs.Pieces.{line_by}
use Rattle.http1_reader.proofs.ChunkLineSteps.{with_cr, without_cr, no_line}
use Rattle.http1_reader.proofs.chunk_line.chunk_line.Goals.{else-len-gt0-via-then-len-gt0+else-line-len-eq13, else-len-gt0-via-else-len-gt0}
use Rattle.http1_reader.proofs.chunk_line.chunk_line.Goals as goal

pub returns-then-line-len-eq13 : goal.returns-then-line-len-eq13
returns-then-line-len-eq13 c = c.line_of.ensures ∙ ap (line_by c.args.room) (with_cr c.args.line.now c.if-len-gt0.true c.if-line-len-eq13.true)

pub returns-else-len-gt0 : goal.returns-else-len-gt0
returns-else-len-gt0 c = elim c.else-len-gt0.branch [
  | else-len-gt0-via-then-len-gt0+else-line-len-eq13 w ↦ without_cr c.args.room c.args.line.now w.if-len-gt0.true w.if-line-len-eq13.false
  | else-len-gt0-via-else-len-gt0 w ↦ no_line c.args.room c.args.line.now (omega (arith, w.if-len-gt0.false))
]
