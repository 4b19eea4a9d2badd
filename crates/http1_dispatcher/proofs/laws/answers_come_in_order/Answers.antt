use Rattle.http1_dispatcher.proofs.Answering as answering
use Rattle.http1_dispatcher.proofs.laws.answers_come_in_order.Goals as goal

pub returns : goal.returns
returns c = λ rules peer f head request bytes rest told data' behind p is u come is_whole. answering.order rules peer f head request bytes rest told p is u come data' behind is_whole
