use Rattle.http1_grammar.proofs.SettledLemmas.{settled_step}
use Rattle.http1_grammar.proofs.settling_goes_on.Goals as goal

pub returns : goal.returns
returns c = settled_step
