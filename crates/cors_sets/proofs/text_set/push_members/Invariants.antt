use Rattle.std.proofs.Common.{◌≡◌, ◌++◌, length}
use Rattle.std.specs.Prelude.{◌==◌}
use Rattle.cors_rules.specs.Sets.{joined}
use Rattle.cors_sets.proofs.SetSteps.{texts_of}
use Rattle.cors_sets.proofs.text_set.push_members.Given as goal

abbrev pub invariant-loop-member : goal.invariant-loop-member
invariant-loop-member l = record {
  text : l.text ≡ l.fn.text ++ joined (texts_of l.yielded);
  first : l.is_first ≡ (length (texts_of l.yielded) == 0);
}
