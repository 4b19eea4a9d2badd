use Rattle.std.proofs.Common.{rules}
use Rattle.server_commands.proofs.FlagSteps.{reads}
use Rattle.server_commands.proofs.reply.ReplyFuture.poll.Goals as goal

pub load-requires : goal.load-requires
load-requires c = (search rules, search rules, reads _ _ _)
