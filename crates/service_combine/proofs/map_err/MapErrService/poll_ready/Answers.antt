use Rattle.std.proofs.Common.{rules}
use Rattle.service_combine.proofs.map_err.MapErrService.poll_ready.Goals as goal

pub returns-in-Ready-Err-clause-answer : goal.returns-in-Ready-Err-clause-answer
returns-in-Ready-Err-clause-answer g c = (c.in-Ready-Err.e, search rules, search rules)
