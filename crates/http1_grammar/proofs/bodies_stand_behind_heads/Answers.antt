use Rattle.http1_grammar.proofs.StageLemmas.{head_follows, body_stands, body_waits}
use Rattle.http1_grammar.proofs.bodies_stand_behind_heads.Goals as goal

pub returns-clause-heads : goal.returns-clause-heads
returns-clause-heads c = head_follows

pub returns-clause-bodies : goal.returns-clause-bodies
returns-clause-bodies c = body_stands

pub returns-clause-waits : goal.returns-clause-waits
returns-clause-waits c = body_waits
