use Rattle.std.proofs.Common.{rules}
use Rattle.service_combine.proofs.both.BothFuture.poll.Goals as goal

pub returns-in-Err-clause-polls : goal.returns-in-Err-clause-polls
returns-in-Err-clause-polls g c = search rules

pub returns-in-Err-clause-order : goal.returns-in-Err-clause-order
returns-in-Err-clause-order g c = search rules

pub returns-in-Err-advance-clause-order : goal.returns-in-Err-advance-clause-order
returns-in-Err-advance-clause-order g c = search rules
