use Rattle.std.proofs.Common.{rules}
use Rattle.server_program.proofs.program.asked.Goals as goal

pub returns-else-len-gt-MAX_SCRIPT-clause-asked : goal.returns-else-len-gt-MAX_SCRIPT-clause-asked
returns-else-len-gt-MAX_SCRIPT-clause-asked g c = search rules

pub returns-else-len-gt-MAX_SCRIPT-clause-unread : goal.returns-else-len-gt-MAX_SCRIPT-clause-unread
returns-else-len-gt-MAX_SCRIPT-clause-unread g c = tt
