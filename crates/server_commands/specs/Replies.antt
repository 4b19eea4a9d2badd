-- Words on the ends of a flag.
use Rattle.std.specs.Prelude.{◌==◌, ℕ, Bool, true, false, List, filter}
use Rattle.std.specs.List.{list_any}
use Rattle.std.specs.Arc.{arc_value}
use Rattle.atomic_table.specs.Seated.{TableId}
use Rattle.server_core.specs.declared.command.Command.{Command}
use Rattle.server_commands.specs.declared.raiser.Raiser.{Raiser}
use Rattle.server_commands.specs.declared.reply.Reply.{Reply}

-- how often a reply has read its flag
abbrev pub reads_of : Reply → ℕ
reads_of reply = reply.seat.me.0.reads

-- what a reply read last: 0, or 1 once the flag was raised, and 0 before the first read
abbrev pub seen_of : Reply → ℕ
seen_of reply = reply.seat.me.0.seen

-- the command that it is the reply to
abbrev pub command_of : Reply → Command
command_of reply = (arc_value reply.word).shared.key

-- which flag it reads
abbrev pub flag_of : Reply → TableId
flag_of reply = reply.seat.table_id

-- which flag the other end raises
abbrev pub raises_of : Raiser → TableId
raises_of raiser = raiser.seat.table_id

-- the command whose reply waits for the other end
abbrev pub asked_by : Raiser → Command
asked_by raiser = (arc_value raiser.word).shared.key

-- what the other end knows of its flag: 1 once it has raised it
abbrev pub knows_of : Raiser → ℕ
knows_of raiser = raiser.seat.me.0.seen

-- what a flag is: 1 once the command has been carried out
abbrev pub word_when : Bool → ℕ
word_when true = 1
word_when false = 0

-- the flag is not raised
abbrev pub is_unraised : Raiser → Bool
is_unraised raiser = knows_of raiser == 0

-- those of these flags that are not raised
abbrev pub unraised : List Raiser → List Raiser
unraised raisers = filter is_unraised raisers

-- one of these flags is not raised
abbrev pub is_any_unraised : List Raiser → Bool
is_any_unraised raisers = list_any is_unraised raisers
