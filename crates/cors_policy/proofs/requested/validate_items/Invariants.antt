use Rattle.std.proofs.Common.{◌≡◌, length, drop}
use Rattle.cors_rules.specs.Requested.{validate_items, items}
use Rattle.cors_policy.proofs.ItemSteps.{judged}
use Rattle.cors_policy.proofs.requested.validate_items.Given as goal

abbrev pub invariant-loop-item : goal.invariant-loop-item
invariant-loop-item l =
    validate_items l.allowed (items l.value) ≡ judged l.allowed l.are_members (drop (length l.yielded) (items l.value))
