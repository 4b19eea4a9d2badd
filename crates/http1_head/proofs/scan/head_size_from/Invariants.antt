use Rattle.std.proofs.Common.{◌≤◌, ◌+◌, ◌-◌, length}
use Rattle.http1_head.proofs.ScanSteps.{feeds_before, Scanned}
use Rattle.http1_head.proofs.scan.head_size_from.Given as goal

abbrev pub invariant-loop-at : goal.invariant-loop-at
invariant-loop-at l = record { within : l.at ≤ length l.bytes; scanned : Scanned l.bytes l.at (feeds_before l.bytes l.from + l.lines) }

abbrev pub decreases-loop-at : goal.decreases-loop-at
decreases-loop-at l = length l.bytes - l.at
