use Rattle.std.proofs.Common.{rules, refl}
use Rattle.http_tests.proofs.switch.SwitchingFuture.poll.Goals as goal

pub returns-clause-value : goal.returns-clause-value
returns-clause-value c = record { value = c.unwrap.result; is = search rules; holds = refl }
