use Rattle.service_combine.proofs.SameLemmas.{IfOk-more}
use Rattle.service_combine.proofs.pipeline_service.Pipeline.clone.Goals as goal

pub returns-clause-meaning : goal.returns-clause-meaning
returns-clause-meaning g c = IfOk-more c.clone.result _ _ _ c.clone.ensures.cases (λ copy is same. record {
  callable = same.callable;
  answers = same.answers;
  readiness = same.readiness;
  futures = same.futures;
})
