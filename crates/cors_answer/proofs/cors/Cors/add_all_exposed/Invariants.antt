use Rattle.std.proofs.Common.{◌≡◌, take, fold, Bor, List, ℕ}
use Rattle.cors_rules.specs.Policy.{Builder}
use Rattle.cors_rules.specs.Building.{and_exposed}
use Rattle.cors_answer.proofs.cors.Cors.add_all_exposed.Given as goal

abbrev pub invariant-loop-name : goal.invariant-loop-name
invariant-loop-name g l = l.self ≡ fold (λ (cors : Builder _) (text : Bor (List ℕ)). and_exposed cors text.now) l.fn.self (take l.name-index l.fn.names)
