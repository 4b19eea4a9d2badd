-- The flags before the index are raised, and all are the ones that they were.
use Rattle.std.proofs.Common.{◌≡◌, map}
use Rattle.std.specs.List.{AllWithin}
use Rattle.server_commands.specs.Replies.{asked_by, knows_of, raises_of}
use Rattle.server_commands.proofs.owed.raise_all.Given as goal

abbrev pub invariant-loop-raiser : goal.invariant-loop-raiser
invariant-loop-raiser l = record {
  raised : AllWithin (λ raiser. knows_of raiser ≡ 1) l.raisers 0 l.raiser-index;
  same : map raises_of l.raisers ≡ map raises_of l.initial.raisers;
  commands : map asked_by l.raisers ≡ map asked_by l.initial.raisers;
}
