use Rattle.http1_dispatcher.proofs.Answering as answering
use Rattle.http1_dispatcher.proofs.laws.an_upgrade_ends_the_answers.Goals as goal

pub returns : goal.returns
returns c = answering.served_upgraded
