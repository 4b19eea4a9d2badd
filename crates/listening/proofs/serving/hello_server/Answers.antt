use Rattle.std.proofs.Common.{◌∙◌, ap}
use Rattle.cors_rules.specs.Building.{permissive}
use Rattle.cors_rules.specs.Policy.{Builder}
use Rattle.script.specs.Script.{Plan}
use Rattle.script.specs.declared.policy.script_rule.ScriptRule.{ScriptRule}
use Rattle.script_service.specs.Factories.{replay_site}
use Rattle.script_service.specs.Sites.{site_by, site_of}
use Rattle.listening.proofs.serving.hello_server.Goals as goal

pub returns-clause-site : goal.returns-clause-site
returns-clause-site c =
    ap replay_site c.run.ensures.factory ∙ c.in_ok-factory.ensures.site ∙ ap (λ (b : Builder ScriptRule). site_by b.policy c.new-script.result.settings) c.in_ok-cors.ensures
    ∙ ap (λ (p : Plan). site_of (record p { cors = permissive })) c.new-script.ensures
