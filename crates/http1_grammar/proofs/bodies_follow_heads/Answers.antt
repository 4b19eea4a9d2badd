use Rattle.http1_grammar.proofs.ReadingLemmas.{body_follows}
use Rattle.http1_grammar.proofs.bodies_follow_heads.Goals as goal

pub returns : goal.returns
returns c = body_follows
