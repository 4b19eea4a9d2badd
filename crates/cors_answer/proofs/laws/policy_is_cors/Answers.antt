use Rattle.http1_plain.specs.Views.{request_of, view}
use Rattle.cors_rules.specs.Answers.{verdict}
use Rattle.cors_answer.proofs.PolicySteps.{by_policy}
use Rattle.cors_answer.proofs.laws.policy_is_cors.Goals as goal

pub returns : goal.returns
returns g c = λ policy service handler q over.
    by_policy _ policy (verdict g.G.OriginRule.allowed policy (view q.head)) (g.S.Service.may service q) (handler (request_of q)) over
