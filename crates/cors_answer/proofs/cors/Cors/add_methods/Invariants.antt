use Rattle.std.proofs.Common.{◌≡◌, take, fold, Bor, List, ℕ}
use Rattle.cors_rules.specs.Policy.{Builder}
use Rattle.cors_rules.specs.Building.{and_method}
use Rattle.cors_answer.proofs.cors.Cors.add_methods.Given as goal

abbrev pub invariant-loop-method : goal.invariant-loop-method
invariant-loop-method g l = l.self ≡ fold (λ (cors : Builder _) (text : Bor (List ℕ)). and_method cors text.now) l.fn.self (take l.method-index l.fn.methods)
