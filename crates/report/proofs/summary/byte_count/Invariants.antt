use Rattle.std.proofs.Common.{◌≡◌, ◌*◌, ◌^◌, ◌≤◌, map, take}
use Rattle.report.specs.Summary.{byte_count}
use Rattle.report.specs.Told.{told_by}
use Rattle.report.proofs.summary.byte_count.Given as goal

abbrev pub invariant-loop-entry : goal.invariant-loop-entry
invariant-loop-entry l = (l.total ≡ byte_count (map told_by (take l.entry-index l.entries))) × (l.total ≤ l.entry-index * 2 ^ 64)
