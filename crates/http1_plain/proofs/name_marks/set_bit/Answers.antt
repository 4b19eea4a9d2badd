use Rattle.http1_plain.proofs.MarkSteps.{bit_set, bit_kept}
use Rattle.http1_plain.proofs.name_marks.set_bit.Goals as goal

pub returns-clause-set : goal.returns-clause-set
returns-clause-set c = bit_set c.args.words.now c.args.at c.requires

pub returns-clause-kept : goal.returns-clause-kept
returns-clause-kept c = λ other. bit_kept c.args.words.now c.args.at _ other c.requires
