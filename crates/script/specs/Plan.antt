-- The plan that a script of the program stands for.
use Rattle.std.specs.Prelude.{ℕ, ◌==◌, not, length, Result, Ok, Err}
use Rattle.cors_rules.specs.Policy.{fresh}
use Rattle.script.specs.declared.script.Script.{Script}
use Rattle.script.specs.declared.reading.Reading.{Reading}
use Rattle.script.specs.declared.reading.Reading.TheVariants.{Good, BadLine}
use Rattle.script.specs.PolicyText.{and_lines}
use Rattle.script.specs.Script.{Plan}

abbrev pub plan : Script → Plan
plan script = record {
  cors = and_lines fresh script.policy.items;
  has_policy = not (length script.policy.items == 0);
  handler = script.settings.handler;
  limits = script.settings.limits;
  cut = script.settings.cut;
  keeps_alive = script.settings.keeps_alive;
  refuses_expectations = script.settings.refuses_expectations;
  echoes_upgrades = script.settings.echoes_upgrades;
  workers = script.settings.workers;
  ring = script.settings.ring;
  retry_limit = script.settings.retry_limit;
  limit = script.settings.limit;
  listeners = script.listeners.items;
}

abbrev pub reading_of : Reading → Result Plan ℕ
reading_of (Good script) = Ok (plan script)
reading_of (BadLine number) = Err number
