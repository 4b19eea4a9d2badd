use Rattle.std.proofs.Common.{◌≡◌, ◌∷◌, take}
use Rattle.cors_rules.specs.Sets.{joined}
use Rattle.cors_policy.proofs.name_list.push_names.Given as goal

abbrev pub invariant-loop-name : goal.invariant-loop-name
invariant-loop-name l = l.text ≡ joined (l.fn.text ∷ take l.name-index l.names)
