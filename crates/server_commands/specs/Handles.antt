-- What the commands of handles owe.
use Rattle.std.specs.Prelude.{◌≡◌, List, [], ◌∷◌, ◌++◌}
use Rattle.server_core.specs.declared.command.Command.{Command}
use Rattle.server_commands.specs.declared.commands.Next.{Next}
use Rattle.server_commands.specs.declared.commands.Next.TheVariants.{Given, NotYet, Ended}
use Rattle.server_commands.specs.declared.handle_commands.HandleCommands.{HandleCommands}
use Rattle.server_commands.specs.declared.raiser.Raiser.{Raiser}
use Rattle.server_commands.specs.Replies.{asked_by, knows_of, unraised}

-- the flags of the replies to the commands that were given and not settled before the last call of `next`
abbrev pub owed_of : {W : Type 0} → HandleCommands W → List Raiser
owed_of commands = commands.owed.raisers.items

-- Behind the flags that are kept stands one more, of the reply to this command, which is not raised.
pub record OneMore (command : Command) (kept after : List Raiser) : Type 0 where
  pub raiser : Raiser
  pub last : after ≡ kept ++ raiser ∷ []
  pub asked : asked_by raiser ≡ command
  pub unraised : knows_of raiser ≡ 0

-- the flags that are raised are forgotten, and no others, and where a command is given its flag is kept behind the others
abbrev pub Owes : Next → List Raiser → List Raiser → Type 0
Owes (Given command) before after = OneMore command (unraised before) after
Owes NotYet before after = after ≡ unraised before
Owes Ended before after = after ≡ unraised before
