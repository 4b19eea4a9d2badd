use Rattle.std.proofs.Common.{arith, length, length-take, length-drop, drop, ◌-◌}
use Rattle.http1_head.proofs.ScanSteps.{feed_at, no_feed}
use Rattle.http1_head.proofs.scan.line_feed.Goals as goal

pub returns-in-Some-clause-before : goal.returns-in-Some-clause-before
returns-in-Some-clause-before c = no_feed c.args.bytes.now c.args.at c.in-Some.place c.in-Some.ensures.0.before

pub returns-in-None-clause-before : goal.returns-in-None-clause-before
returns-in-None-clause-before c = λ k o l e.
    feed_at c.args.bytes.now c.args.at (length c.args.bytes.now - c.args.at) k o
    (λ m a b. c.in-None.ensures m a (omega (arith, length-take (length c.args.bytes.now - c.args.at) (drop c.args.at c.args.bytes.now), length-drop c.args.at c.args.bytes.now)))
    (omega arith) e
