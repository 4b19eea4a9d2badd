use Rattle.service_combine.proofs.SameLemmas.{IfOk-more, OrElse-within, Through-comes}
use Rattle.service_combine.proofs.map_service_factory.MapServiceFactory.clone.Goals as goal

pub returns-clause-meaning : goal.returns-clause-meaning
returns-clause-meaning g c = IfOk-more c.clone.result _ _ _ c.clone.ensures.cases (λ copy is same. record {
  callable = (λ can. (same.callable.0 can.0, rw is.1 at can.1), λ can. (same.callable.1 can.0, rw is.1 can.1));
  answers = λ cfg q. (
    λ r may. OrElse-within (Through-comes (same.answers cfg q).0) (rw is.1 at may),
    λ r may. rw is.1 (OrElse-within (Through-comes (same.answers cfg q).1) may),
  );
  readiness = same.readiness;
  futures = λ cfg q. (
    λ f begun. (begun.0, λ r may. OrElse-within (Through-comes (same.answers cfg q).0) (rw is.1 at (begun.1 r may))),
    λ f begun. (begun.0, λ r may. rw is.1 (OrElse-within (Through-comes (same.answers cfg q).1) (begun.1 r may))),
  );
  errors = λ cfg. (λ e. OrElse-within ((same.errors cfg).0 e), λ e. OrElse-within ((same.errors cfg).1 e));
  makes = same.makes;
})
