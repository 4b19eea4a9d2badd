-- What the factory of a replayed script's services shows, and why it makes none.
use Rattle.std.specs.Prelude.{⊤}
use Rattle.std.specs.Arc.{arc_value}
use Rattle.cors_answer.specs.Transforms.{Refuses}
use Rattle.cors_answer.specs.declared.init_error.CorsInitError.{CorsInitError}
use Rattle.cors_rules.specs.Policy.{Builder}
use Rattle.http_flow.specs.declared.http_init_error.HttpInitError.{HttpInitError}
use Rattle.http_flow.specs.declared.http_init_error.HttpInitError.TheVariants.{Expect, Upgrade, Service, Memory}
use Rattle.http_flow.specs.declared.never.Never.{Never}
use Rattle.script.specs.declared.policy.script_rule.ScriptRule.{ScriptRule}
use Rattle.script_service.specs.Sites.{Site, site_by}
use Rattle.script_service.specs.declared.replay_factory.ReplayFactory.{ReplayFactory}

-- the builder of its policy, and how connections are served
abbrev pub replay_builder : ReplayFactory → Builder ScriptRule
replay_builder factory = arc_value factory.cors

abbrev pub replay_site : ReplayFactory → Site
replay_site factory = site_by (replay_builder factory).policy factory.settings

-- the policy is refused, or memory ran out; the services of expectations and upgrades are always made
abbrev pub RefusesSite : Builder ScriptRule → HttpInitError CorsInitError Never Never → Type 0
RefusesSite builder (Expect never) = ⊥
RefusesSite builder (Upgrade never) = ⊥
RefusesSite builder (Service error) = Refuses builder error
RefusesSite builder Memory = ⊤
