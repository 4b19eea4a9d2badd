use Rattle.std.proofs.Common.{take}
use Rattle.http1_head.specs.Asking.{IsSaidBy}
use Rattle.http1_head.proofs.fields.Fields.of.Given as goal

abbrev pub invariant-loop-place : goal.invariant-loop-place
invariant-loop-place l = IsSaidBy (take l.place l.headers)
    (record { coding = l.fields.0; length = l.fields.1.0; options = l.fields.1.1.0; expectation = l.fields.1.1.1.0 })
