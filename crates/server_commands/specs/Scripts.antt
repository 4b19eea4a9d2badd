-- A word on commands in memory.
use Rattle.std.specs.Prelude.{List, drop}
use Rattle.server_commands.specs.declared.script_commands.CommandStep.{CommandStep}
use Rattle.server_commands.specs.declared.script_commands.ScriptCommands.{ScriptCommands}

-- the steps that are to come
abbrev pub to_come : ScriptCommands → List CommandStep
to_come script = drop script.place script.steps.items
