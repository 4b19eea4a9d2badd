use Rattle.std.proofs.Common.{◌≡◌, ◌++◌, ◌-◌, map}
use Rattle.report.specs.Report.{entry_lines}
use Rattle.report.proofs.entries.push_all_entries.Given as goal

abbrev pub invariant-loop-token : goal.invariant-loop-token
invariant-loop-token l =
    l.out ++ entry_lines l.token (l.listeners - l.token) (map (λ entry. entry.now) l.entries)
    ≡ l.fn.out ++ entry_lines 0 l.listeners (map (λ entry. entry.now) l.entries)
