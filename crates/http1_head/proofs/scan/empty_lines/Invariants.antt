use Rattle.std.proofs.Common.{◌≡◌, ◌≤◌, ◌-◌, length, drop}
use Rattle.http1_grammar.specs.Lines.{skip_empty_lines}
use Rattle.http1_head.proofs.scan.empty_lines.Given as goal

abbrev pub invariant-loop-len : goal.invariant-loop-len
invariant-loop-len l = record { within : l.at ≤ length l.bytes; rest : skip_empty_lines (drop l.at l.bytes) ≡ skip_empty_lines l.bytes }

abbrev pub decreases-loop-len : goal.decreases-loop-len
decreases-loop-len l = length l.bytes - l.at
