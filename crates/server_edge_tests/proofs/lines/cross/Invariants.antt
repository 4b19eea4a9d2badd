use Rattle.server_edge_tests.specs.Lines.{KeepsLine}
use Rattle.server_edge_tests.proofs.lines.cross.Given as goal

abbrev pub invariant-loop : goal.invariant-loop
invariant-loop g l = KeepsLine l.fn.line l.line
