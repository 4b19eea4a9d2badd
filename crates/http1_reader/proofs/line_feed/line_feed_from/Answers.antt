use Rattle.http1_reader.proofs.FeedSteps.{lf_further, lf_nowhere}
use Rattle.http1_reader.proofs.line_feed.line_feed_from.Goals as goal

pub returns-in-Some-clause-value : goal.returns-in-Some-clause-value
returns-in-Some-clause-value c = lf_further c.args.bytes.now c.args.from c.in-Some.at c.requires.none_before c.in-Some.ensures.value

pub returns-in-None-clause-value : goal.returns-in-None-clause-value
returns-in-None-clause-value c = lf_nowhere c.args.bytes.now c.args.from c.requires.none_before c.in-None.ensures.value
