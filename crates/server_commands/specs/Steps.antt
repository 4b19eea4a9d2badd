-- The steps of commands in memory.
use Rattle.std.specs.Prelude.{◌≡◌, List, [], ◌∷◌}
use Rattle.server_core.specs.declared.command.Command.{Command}
use Rattle.server_commands.specs.declared.commands.Next.{Next}
use Rattle.server_commands.specs.declared.commands.Next.TheVariants as next
use Rattle.server_commands.specs.declared.script_commands.CommandStep.{CommandStep}
use Rattle.server_commands.specs.declared.script_commands.CommandStep.TheVariants.{Give, NotYet}

-- the commands among these steps
abbrev pub commands_in : List CommandStep → List Command
commands_in [] = []
commands_in (Give command ∷ steps) = command ∷ commands_in steps
commands_in (NotYet ∷ steps) = commands_in steps

-- Where these steps are to come, this is the answer, and these are to come behind it.
abbrev pub IsNext : List CommandStep → Next → List CommandStep → Type 0
IsNext [] answer behind = (answer ≡ next.Ended) × (behind ≡ [])
IsNext (Give command ∷ steps) answer behind = (answer ≡ next.Given command) × (behind ≡ steps)
IsNext (NotYet ∷ steps) answer behind = (answer ≡ next.NotYet) × (behind ≡ steps)
