use Rattle.server_core.proofs.Searches.{none_from, first_from}
use Rattle.server_core.proofs.availability.first_bit.Goals as goal

pub returns-then-rest-eq0 : goal.returns-then-rest-eq0
returns-then-rest-eq0 c = none_from c.args.word c.args.place c.if-rest-eq0.true

pub returns : goal.returns
returns c = first_from c.args.word c.args.place c.ranges.word.fits c.if-rest-eq0.false
