-- What is shown of a service under a policy: the service, and the policy.
use Rattle.std.specs.Arc.{arc_value}
use Rattle.cors_rules.specs.Policy.{Policy}
use Rattle.cors_answer.specs.declared.middleware.CorsMiddleware.{CorsMiddleware}

abbrev pub service_of : {S G : Type 0} → CorsMiddleware S G → S
service_of middleware = middleware.service

abbrev pub policy_of : {S G : Type 0} → CorsMiddleware S G → Policy G
policy_of middleware = arc_value middleware.policy
