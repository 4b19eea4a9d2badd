use Rattle.std.proofs.Common.{rules, ◌≡◌, map, IsPermutation, subst, Bor}
use Rattle.std.proofs.lemmas.List.Sorted.{IsPermutation-map, IsNonDecreasingBy-from_sort_by_key}
use Rattle.server_run.specs.declared.entry.Entry.{Entry}
use Rattle.server_run.specs.declared.memory_link.MemoryLink.{MemoryLink}
use Rattle.report.proofs.Lines.{IsByPlace-map}
use Rattle.report.proofs.entries.in_order.Goals as goal

abbrev read : Bor (Entry MemoryLink) → Entry MemoryLink
read entry = entry.now

pub returns-clause-same : goal.returns-clause-same
returns-clause-same c =
    let lent : map read c.in_ok-ordered.ordered.items ≡ c.args.entries.now = search rules in
    subst (λ es. IsPermutation es (map read c.sort_by_key.new.self.items)) lent (IsPermutation-map read _ _ c.sort_by_key.ensures.permutation)

pub returns-clause-by_place : goal.returns-clause-by_place
returns-clause-by_place c =
    IsByPlace-map read _ (IsNonDecreasingBy-from_sort_by_key (λ entry. entry.now.place) _ c.in_ok-sort_by_key.ensures.sorted (λ a r q k. search rules))
