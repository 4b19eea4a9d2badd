use Rattle.std.proofs.Common.{rules}
use Rattle.server_commands.proofs.FlagSteps.{comes}
use Rattle.server_commands.proofs.flag.flag.Goals as goal

pub load_new_seat-other-requires : goal.load_new_seat-other-requires
load_new_seat-other-requires c = (search rules, comes _)
