use Rattle.http1_dispatcher.proofs.Written.{never_up}
use Rattle.http1_dispatcher.proofs.laws.nothing_is_upgraded_unasked.Goals as goal

pub returns : goal.returns
returns c = never_up
