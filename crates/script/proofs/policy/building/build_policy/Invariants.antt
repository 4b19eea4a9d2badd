use Rattle.std.proofs.Common.{◌≡◌, drop}
use Rattle.cors_rules.specs.Policy.{fresh}
use Rattle.script.specs.PolicyText.{and_lines}
use Rattle.script.proofs.policy.building.build_policy.Given as goal

abbrev pub invariant-loop-line : goal.invariant-loop-line
invariant-loop-line l = and_lines fresh l.lines ≡ and_lines l.cors (drop l.line-index l.lines)
