use Rattle.std.proofs.Common.{◌-◌, length}
use Rattle.http1_reader.proofs.DecodeSteps.{Going}
use Rattle.http1_reader.proofs.decode.decode.Given as goal

abbrev pub invariant-loop-used : goal.invariant-loop-used
invariant-loop-used l = Going l.limits l.bytes l.fn.decoded l.decoded l.at l.next

abbrev pub decreases-loop-used : goal.decreases-loop-used
decreases-loop-used l = length l.bytes - l.at
