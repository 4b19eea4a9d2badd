use Rattle.http1_dispatcher.proofs.Answering.{served_refused}
use Rattle.http1_dispatcher.proofs.laws.nothing_follows_a_refusal.Goals as goal

pub returns : goal.returns
returns c = served_refused
