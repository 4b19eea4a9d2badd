use Rattle.http1_dispatcher.proofs.Answering as answering
use Rattle.http1_dispatcher.proofs.laws.nothing_follows_a_refused_expectation.Goals as goal

pub returns : goal.returns
returns c = answering.refused_expectation_is_last
