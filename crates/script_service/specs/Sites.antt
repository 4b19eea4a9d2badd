-- How the connections of a script are served.
use Rattle.std.specs.Prelude.{Bool, List, ℕ}
use Rattle.http1_grammar.specs.Limits.{Limits}
use Rattle.http1_grammar.specs.Wire.{Response}
use Rattle.http1_grammar.specs.Answers.{Answers, Request}
use Rattle.service_core.specs.declared.peer.Peer.{Peer}
use Rattle.cors_rules.specs.Policy.{Policy}
use Rattle.cors_rules.specs.Answers.{cors}
use Rattle.handlers.specs.Expecting.{expects_as}
use Rattle.handlers.specs.Handlers.{handler_response}
use Rattle.http1_dispatcher.specs.Requests.{Functions, served}
use Rattle.http1_dispatcher.specs.declared.rules.Rules.{Rules}
use Rattle.script.specs.Rules.{script_rules}
use Rattle.script.specs.Script.{Plan}
use Rattle.script.specs.declared.handler.Handler.{Handler}
use Rattle.script.specs.declared.policy.script_rule.ScriptRule.{ScriptRule}
use Rattle.script.specs.declared.setting.settings.Settings.{Settings}

-- a handler under a policy, the limits of its connections, and whether they stay open, refuse expectations and echo upgrades
pub record Site : Type 0 where
  pub policy : Policy ScriptRule
  pub handler : Handler
  pub limits : Limits
  pub keeps_alive : Bool
  pub refuses_expectations : Bool
  pub echoes_upgrades : Bool

-- what it answers to a request
abbrev pub answers_at : Site → Request Peer → Response
answers_at at request = cors script_rules at.policy (handler_response at.handler) request

-- what its services answer
abbrev pub functions_at : Site → Functions
functions_at at = record { handler = answers_at at; expect = expects_as at.refuses_expectations }

abbrev pub rules_at : Site → Rules
rules_at at = record { limits = at.limits; keeps_alive = at.keeps_alive; has_upgrade = at.echoes_upgrades }

-- what a connection of this peer that gives these bytes is answered at the site
abbrev pub answers_of : Site → Peer → List ℕ → Answers
answers_of at peer bytes = served (rules_at at) peer (functions_at at) bytes

-- the site of a policy and of a script's settings
abbrev pub site_by : Policy ScriptRule → Settings → Site
site_by policy settings = record {
  policy = policy;
  handler = settings.handler;
  limits = settings.limits;
  keeps_alive = settings.keeps_alive;
  refuses_expectations = settings.refuses_expectations;
  echoes_upgrades = settings.echoes_upgrades;
}

-- the site of a script
abbrev pub site_of : Plan → Site
site_of plan = record {
  policy = plan.cors.policy;
  handler = plan.handler;
  limits = plan.limits;
  keeps_alive = plan.keeps_alive;
  refuses_expectations = plan.refuses_expectations;
  echoes_upgrades = plan.echoes_upgrades;
}
