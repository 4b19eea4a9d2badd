use Rattle.script.proofs.Ranges.{read_in_range}
use Rattle.script.proofs.line.read_line.Goals as goal

pub returns-clause-range : goal.returns-clause-range
returns-clause-range c = read_in_range c.told_by.result c.args.line.now c.told_by.ensures
