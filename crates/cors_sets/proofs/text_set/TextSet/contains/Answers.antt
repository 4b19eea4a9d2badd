use Rattle.std.proofs.Common.{rules}
use Rattle.cors_sets.proofs.text_set.TextSet.contains.Goals as goal

pub returns-in-Some : goal.returns-in-Some
returns-in-Some c = search rules

pub returns-in-None : goal.returns-in-None
returns-in-None c = search rules
