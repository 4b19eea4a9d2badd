use Rattle.std.proofs.Common.{◌≡◌, ◌≤◌, ◌++◌, length, take}
use Rattle.script.specs.Planned.{gives}
use Rattle.script.proofs.pieces.push_pieces.Given as goal

abbrev pub invariant-loop-rest : goal.invariant-loop-rest
invariant-loop-rest l = record {
  given : l.reads.items ++ gives l.cut l.rest ≡ l.initial.reads.items ++ gives l.cut l.bytes;
  kept : take l.had l.reads.items ≡ l.initial.reads.items;
  held : l.had ≤ length l.reads.items;
}

abbrev pub decreases-loop-rest : goal.decreases-loop-rest
decreases-loop-rest l = length l.rest
