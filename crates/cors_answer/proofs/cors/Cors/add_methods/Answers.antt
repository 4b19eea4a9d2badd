use Rattle.cors_rules.specs.Building.{and_method}
use Rattle.cors_answer.proofs.Folds.{folded_one, folded_all}
use Rattle.cors_answer.proofs.cors.Cors.add_methods.Goals as goal

pub loop-method-preserved : goal.loop-method-preserved
loop-method-preserved g c =
    folded_one and_method _ _ _ _ c.loop-method-test.true _ c.loop-method.invariant _ c.as_bytes.ensures.value _ c.in_ok-add_method.ensures

pub returns : goal.returns
returns g c = folded_all and_method _ _ _ c.loop-method-test.false _ c.loop-method.invariant
