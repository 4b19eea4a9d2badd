use Rattle.http1_grammar.proofs.EncodingLemmas.{encoded_read}
use Rattle.http1_grammar.proofs.encoded_chunks_are_read.Goals as goal

pub returns : goal.returns
returns c = encoded_read
