use Rattle.std.proofs.Common.{length, take}
use Rattle.http1_head.proofs.OptionSteps.{Adds, parts}
use Rattle.http1_head.proofs.options.ConnectionOptions.and.Given as goal

abbrev pub invariant-loop-option : goal.invariant-loop-option
invariant-loop-option l = Adds l.fn.self (take (length l.yielded) (parts l.value)) l.options
