use Rattle.std.proofs.Common.{◌≡◌, ◌++◌, map, take}
use Rattle.std.specs.List.{flat_map}
use Rattle.report.specs.Report.{entry_line, entries_of}
use Rattle.report.proofs.entries.push_entries_of.Given as goal

abbrev pub invariant-loop-entry : goal.invariant-loop-entry
invariant-loop-entry l = l.out ≡ l.fn.out ++ flat_map entry_line (entries_of l.token (map (λ entry. entry.now) (take l.entry-index l.entries)))
