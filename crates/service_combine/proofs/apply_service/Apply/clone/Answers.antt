use Rattle.service_combine.proofs.SameLemmas.{IfOk-more, Through-comes, takes-copy, takes-original}
use Rattle.service_combine.proofs.apply_service.Apply.clone.Goals as goal

pub returns-clause-meaning : goal.returns-clause-meaning
returns-clause-meaning g c = IfOk-more c.clone.result _ _ _ c.clone.ensures.cases (λ copy is same takes. record {
  callable = (
    λ can. (same.callable.0 can.0, takes-copy _ _ _ _ _ takes (rw is.1 at can.1)),
    λ can. (same.callable.1 can.0, rw is.1 (takes-original _ _ _ _ _ takes can.1)),
  );
  answers = λ q. (
    λ r may. Through-comes (takes.answers q).0 (rw is.1 at may),
    λ r may. rw is.1 (Through-comes (takes.answers q).1 may),
  );
  readiness = same.readiness;
  futures = λ q. (
    λ f begun. ((takes.answers q).0 f (rw is.1 at begun.0), begun.1),
    λ f begun. (rw is.1 ((takes.answers q).1 f begun.0), begun.1),
  );
})
