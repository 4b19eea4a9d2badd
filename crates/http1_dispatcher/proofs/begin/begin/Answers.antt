use Rattle.std.proofs.lemmas.Result.{IfOk-weaker}
use Rattle.http1_dispatcher.proofs.begin.begin.Goals as goal

pub returns-in-Awaiting : goal.returns-in-Awaiting
returns-in-Awaiting c = IfOk-weaker c.begin_body.result _ _ (λ begun begins. begins c.args.peer) c.begin_body.ensures
