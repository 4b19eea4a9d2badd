use Rattle.std.proofs.Common.{rules}
use Rattle.server_program.proofs.ending.Ending.write_to.Goals as goal

pub returns-in-Ok : goal.returns-in-Ok
returns-in-Ok g c = search rules
