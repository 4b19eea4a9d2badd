use Rattle.http1_reader.proofs.FeedSteps.{first_lf}
use Rattle.http1_reader.proofs.line_feed.line_feed.Goals as goal

pub returns-clause-value : goal.returns-clause-value
returns-clause-value c = first_lf c.args.bytes.now c.memchr.result c.memchr.ensures
