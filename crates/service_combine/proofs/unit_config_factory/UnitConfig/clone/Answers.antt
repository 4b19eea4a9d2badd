use Rattle.service_combine.proofs.SameLemmas.{IfOk-more}
use Rattle.service_combine.proofs.unit_config_factory.UnitConfig.clone.Goals as goal

pub returns-clause-meaning : goal.returns-clause-meaning
returns-clause-meaning g c = IfOk-more c.clone.result _ _ _ c.clone.ensures.cases (λ copy is same. record {
  callable = same.callable;
  answers = λ _. same.answers tt;
  readiness = λ _. same.readiness tt;
  futures = λ _. same.futures tt;
  errors = λ _. same.errors tt;
  makes = λ _. same.makes tt;
})
