use Rattle.http1_grammar.proofs.HeldLemmas.{reader_holds, reader_fits}
use Rattle.http1_grammar.proofs.waiting_readers_hold_little.Goals as goal

pub returns-clause-bound : goal.returns-clause-bound
returns-clause-bound c = reader_holds

pub returns-clause-fits : goal.returns-clause-fits
returns-clause-fits c = reader_fits
