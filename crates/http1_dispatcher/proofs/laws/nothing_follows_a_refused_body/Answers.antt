use Rattle.http1_dispatcher.proofs.Answering as answering
use Rattle.http1_dispatcher.proofs.laws.nothing_follows_a_refused_body.Goals as goal

pub returns : goal.returns
returns c = λ rules peer f head request bytes rest told status p is u come. answering.refused_body_is_last rules peer f head request bytes rest told p is u come status
