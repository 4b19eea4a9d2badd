use Rattle.http1_dispatcher.proofs.Answering as answering
use Rattle.http1_dispatcher.proofs.laws.nothing_follows_a_closing_answer.Goals as goal

pub returns : goal.returns
returns c = λ rules peer f head request bytes rest told data' behind p is u come is_whole. answering.closing_is_last rules peer f head request bytes rest told p is u come data' behind is_whole
