use Rattle.std.proofs.Common.{◌≡◌, ◌++◌}
use Rattle.cors_sets.proofs.SetSteps.{texts_of}
use Rattle.cors_sets.proofs.sorted_texts.push_copies.Given as goal

abbrev pub invariant-loop-text : goal.invariant-loop-text
invariant-loop-text l = l.row.items ≡ l.fn.row.items ++ texts_of l.yielded
