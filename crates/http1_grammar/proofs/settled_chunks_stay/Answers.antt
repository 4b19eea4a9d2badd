use Rattle.http1_grammar.proofs.SettledLemmas.{settled_stays}
use Rattle.http1_grammar.proofs.settled_chunks_stay.Goals as goal

pub returns : goal.returns
returns c = settled_stays
