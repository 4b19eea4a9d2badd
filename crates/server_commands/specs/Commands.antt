-- What a source of commands tells after an answer.
use Rattle.std.specs.Prelude.{ℕ, List, [], ◌∷◌, ◌++◌, Option, option_map}
use Rattle.service_core.specs.Counts.{risen}
use Rattle.server_core.specs.declared.command.Command.{Command}
use Rattle.server_core.specs.declared.command.Command.TheVariants.{Pause, Resume, Stop}
use Rattle.server_commands.specs.declared.commands.Next.{Next}
use Rattle.server_commands.specs.declared.commands.Next.TheVariants.{Given, NotYet, Ended}

-- the commands that were given, where they are told
abbrev pub given_after : Next → Option (List Command) → Option (List Command)
given_after (Given command) given = option_map (λ commands. commands ++ command ∷ []) given
given_after NotYet given = given
given_after Ended given = given

-- the count of stops, with this command
abbrev pub stops_with : Command → ℕ → ℕ
stops_with Pause stops = stops
stops_with Resume stops = stops
stops_with (Stop graceful) stops = risen stops

-- how many stops were given
abbrev pub stops_after : Next → ℕ → ℕ
stops_after (Given command) stops = stops_with command stops
stops_after NotYet stops = stops
stops_after Ended stops = stops

-- how often none was given
abbrev pub idles_after : Next → ℕ → ℕ
idles_after (Given command) idles = idles
idles_after NotYet idles = risen idles
idles_after Ended idles = risen idles
