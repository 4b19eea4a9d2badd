use Rattle.cors_answer.specs.Shown.{policy_of}
use Rattle.cors_answer.proofs.CopySteps.{ready_within, under_within}
use Rattle.cors_answer.proofs.middleware.CorsMiddleware.clone.Goals as goal

pub returns-clause-meaning : goal.returns-clause-meaning
returns-clause-meaning g c lies = record {
  callable = lies.callable;
  answers = λ q.
      under_within _ g.G.OriginRule.allowed (policy_of c.args.self.now) (policy_of c.in_ok-copy.copy) c.in_ok-copy.ensures.cases.1 _ _ (lies.answers q) q;
  readiness = ready_within _ _ _ lies.readiness;
  futures = λ q f begun. (
    begun.0,
    λ r gives.
        under_within _ g.G.OriginRule.allowed (policy_of c.args.self.now) (policy_of c.in_ok-copy.copy) c.in_ok-copy.ensures.cases.1 _ _ (lies.answers q) q r (begun.1 r gives),
  );
}
