use Rattle.service_combine.proofs.SameLemmas.{IfOk-more, OrElse-within, Through-comes}
use Rattle.service_combine.proofs.map_init_err.MapInitErr.clone.Goals as goal

pub returns-clause-meaning : goal.returns-clause-meaning
returns-clause-meaning g c = IfOk-more c.clone.result _ _ _ c.clone.ensures.cases (λ copy is same. record {
  callable = (λ can. (same.callable.0 can.0, rw is.1 at can.1), λ can. (same.callable.1 can.0, rw is.1 can.1));
  answers = same.answers;
  readiness = same.readiness;
  futures = same.futures;
  errors = λ cfg. (
    λ e may. OrElse-within (Through-comes (same.errors cfg).0) (rw is.1 at may),
    λ e may. rw is.1 (OrElse-within (Through-comes (same.errors cfg).1) may),
  );
  makes = same.makes;
})
