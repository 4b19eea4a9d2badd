-- What an answer of commands with a signal rests on.
use Rattle.std.specs.Prelude.{◌≡◌, ℕ, List, Option, None, Some}
use Rattle.service_core.specs.Counts.{risen}
use Rattle.service_core.specs.Shown.{wait_count}
use Rattle.service_core.specs.declared.watched.Watched.{Watched}
use Rattle.server_core.specs.declared.command.Command.{Command}
use Rattle.server_commands.specs.Commands.{given_after, idles_after, stops_after}
use Rattle.server_commands.specs.declared.commands.Next.{Next}

-- A signal that is awaited was asked, and has come or was not there yet. One that came before is not asked.
abbrev pub BySignal : {Fut : Type 0} → Option (Watched Fut) → Option (Watched Fut) → Type 0 → Type 0 → Type 0
BySignal (Some before) (Some after) has_come has_not = (wait_count after ≡ risen (wait_count before)) × has_not
BySignal (Some before) None has_come has_not = has_come
BySignal None (Some after) has_come has_not = ⊥
BySignal None None has_come has_not = has_not

-- The source behind was asked, and this is told of its answer.
pub record HandsOn {Co : Type 0} (given_of : Co → Option (List Command)) (stops_of idles_of : Co → ℕ) (before after : Co) (answer : Next) : Type 0 where
  pub given : given_of after ≡ given_after answer (given_of before)
  pub stops : stops_of after ≡ stops_after answer (stops_of before)
  pub idles : idles_of after ≡ idles_after answer (idles_of before)
