use Rattle.std.proofs.Common.{rules}
use Rattle.server_run.proofs.keep_all.KeepAllDone.make_room.Goals as goal

pub returns-in_err-reserve-clause-kept : goal.returns-in_err-reserve-clause-kept
returns-in_err-reserve-clause-kept g c = search rules
