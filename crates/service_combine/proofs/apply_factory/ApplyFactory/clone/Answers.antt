use Rattle.service_combine.proofs.SameLemmas.{IfOk-more, LiesWithin-within, OrElse-within, Through-comes}
use Rattle.service_combine.proofs.apply_factory.ApplyFactory.clone.Goals as goal

pub returns-clause-meaning : goal.returns-clause-meaning
returns-clause-meaning g c = IfOk-more c.clone.result _ _ _ c.clone.ensures.cases (λ copy is same. record {
  callable = (λ can. (same.callable.0 can.0, rw is.1 at can.1), λ can. (same.callable.1 can.0, rw is.1 can.1));
  answers = λ cfg q. (
    λ r may. Through-comes (LiesWithin-within (λ q. (same.answers cfg q).0) (same.readiness cfg).0 (λ q. (same.futures cfg q).0)) (rw is.1 at may),
    λ r may. rw is.1 (Through-comes (LiesWithin-within (λ q. (same.answers cfg q).1) (same.readiness cfg).1 (λ q. (same.futures cfg q).1)) may),
  );
  readiness = same.readiness;
  futures = λ cfg q. (
    λ f begun. (Through-comes (LiesWithin-within (λ q. (same.answers cfg q).0) (same.readiness cfg).0 (λ q. (same.futures cfg q).0)) (rw is.1 at begun.0), begun.1),
    λ f begun. (rw is.1 (Through-comes (LiesWithin-within (λ q. (same.answers cfg q).1) (same.readiness cfg).1 (λ q. (same.futures cfg q).1)) begun.0), begun.1),
  );
  errors = λ cfg. (λ e. OrElse-within ((same.errors cfg).0 e), λ e. OrElse-within ((same.errors cfg).1 e));
  makes = same.makes;
})
