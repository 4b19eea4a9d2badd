use Rattle.std.proofs.Common.{◌≡◌}
use Rattle.http1_plain.proofs.SentSteps.{rest_eq}
use Rattle.http1_plain.proofs.sent_name.is_lowered.Given as goal

-- the bytes before are equal
abbrev pub invariant-loop-place : goal.invariant-loop-place
invariant-loop-place l = rest_eq l.sent l.name l.place ≡ rest_eq l.sent l.name 0
