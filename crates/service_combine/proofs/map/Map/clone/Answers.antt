use Rattle.service_combine.proofs.SameLemmas.{IfOk-more, OrElse-within, Through-comes}
use Rattle.service_combine.proofs.map.Map.clone.Goals as goal

pub returns-clause-meaning : goal.returns-clause-meaning
returns-clause-meaning g c = IfOk-more c.clone.result _ _ _ c.clone.ensures.cases (λ copy is same. record {
  callable = (λ can. (same.callable.0 can.0, rw is.1 at can.1), λ can. (same.callable.1 can.0, rw is.1 can.1));
  answers = λ q. (
    λ r may. OrElse-within (Through-comes (same.answers q).0) (rw is.1 at may),
    λ r may. rw is.1 (OrElse-within (Through-comes (same.answers q).1) may),
  );
  readiness = same.readiness;
  futures = λ q. (
    λ f begun. (begun.0, λ r may. OrElse-within (Through-comes (same.answers q).0) (rw is.1 at (begun.1 r may))),
    λ f begun. (begun.0, λ r may. rw is.1 (OrElse-within (Through-comes (same.answers q).1) (begun.1 r may))),
  );
})
