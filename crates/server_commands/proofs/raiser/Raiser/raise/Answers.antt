use Rattle.std.proofs.Common.{rules}
use Rattle.server_commands.proofs.FlagSteps.{raises}
use Rattle.server_commands.proofs.raiser.Raiser.raise.Goals as goal

pub store-requires : goal.store-requires
store-requires c = (search rules, search rules, raises _ _ _)
