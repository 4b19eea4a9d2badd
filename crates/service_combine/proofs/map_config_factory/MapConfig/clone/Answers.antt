use Rattle.service_combine.proofs.SameLemmas.{IfOk-more, Through-holds}
use Rattle.service_combine.proofs.map_config_factory.MapConfig.clone.Goals as goal

pub returns-clause-meaning : goal.returns-clause-meaning
returns-clause-meaning g c = IfOk-more c.clone.result _ _ _ c.clone.ensures.cases (λ copy is same. record {
  callable = (λ can. (same.callable.0 can.0, rw is.1 at can.1), λ can. (same.callable.1 can.0, rw is.1 can.1));
  answers = λ cfg q. (
    λ r may. Through-holds (λ to. (same.answers to q).0 r) (rw is.1 at may),
    λ r may. rw is.1 (Through-holds (λ to. (same.answers to q).1 r) may),
  );
  readiness = λ cfg. (
    λ a ready. Through-holds (λ to. (same.readiness to).0 a) (rw is.1 at ready),
    λ a ready. rw is.1 (Through-holds (λ to. (same.readiness to).1 a) ready),
  );
  futures = λ cfg q. (
    λ f begun. Through-holds (λ to. (same.futures to q).0 f) (rw is.1 at begun),
    λ f begun. rw is.1 (Through-holds (λ to. (same.futures to q).1 f) begun),
  );
  errors = λ cfg. (
    λ e may. Through-holds (λ to. (same.errors to).0 e) (rw is.1 at may),
    λ e may. rw is.1 (Through-holds (λ to. (same.errors to).1 e) may),
  );
  makes = λ cfg. (
    λ may. Through-holds (λ to. (same.makes to).0) (rw is.1 at may),
    λ may. rw is.1 (Through-holds (λ to. (same.makes to).1) may),
  );
})
