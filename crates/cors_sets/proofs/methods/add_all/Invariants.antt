use Rattle.std.proofs.Common.{◌≡◌, take, fold}
use Rattle.cors_rules.specs.Sets.{with}
use Rattle.cors_sets.proofs.methods.add_all.Given as goal

abbrev pub invariant-loop-text : goal.invariant-loop-text
invariant-loop-text l = l.set ≡ fold (λ set text. with set text.now) l.fn.set (take l.text-index l.texts)
