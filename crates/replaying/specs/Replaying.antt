-- What a script is served by, and why it is not.
use Rattle.std.specs.Prelude.{◌≡◌}
use Rattle.cors_answer.specs.Transforms.{Refuses}
use Rattle.cors_answer.specs.declared.init_error.CorsInitError.TheVariants.{Memory}
use Rattle.cors_rules.specs.Policy.{Builder}
use Rattle.script.specs.Script.{Plan}
use Rattle.script.specs.declared.policy.script_rule.ScriptRule.{ScriptRule}
use Rattle.server.specs.Settings.{default_settings}
use Rattle.server.specs.declared.settings.Settings.{Settings}
use Rattle.replaying.specs.declared.replay_error.ReplayError.{ReplayError}
use Rattle.replaying.specs.declared.replay_error.ReplayError.TheVariants.{Startup, NoWorker}

-- what the server is set to
abbrev pub settings_by : Plan → Settings
settings_by plan = record default_settings { workers = plan.workers; ring = plan.ring; retry_limit = plan.retry_limit; limit = plan.limit }

-- why nothing was served: the policy is refused, or memory ran out, or a start was refused
abbrev pub IsUnreplayed : Builder ScriptRule → Type 0 → ReplayError → Type 0
IsUnreplayed builder start_refused (Startup error) = Refuses builder error
IsUnreplayed builder start_refused NoWorker = start_refused

-- why connections that were made are not served: memory ran out, or a start was refused
abbrev pub IsUngenerated : Type 0 → ReplayError → Type 0
IsUngenerated start_refused (Startup error) = error ≡ Memory
IsUngenerated start_refused NoWorker = start_refused
