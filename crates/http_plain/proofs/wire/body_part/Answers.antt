use Rattle.std.proofs.Common.{sym, ◌∙◌}
use Rattle.http_plain.proofs.WireSteps.{headless, no_body, some_body}
use Rattle.http_plain.proofs.wire.body_part.Goals as goal

pub returns-then-answers_head : goal.returns-then-answers_head
returns-then-answers_head c = rw c.if-answers_head.true (headless c.args.status c.args.body.now)

pub returns-then-has_no_length : goal.returns-then-has_no_length
returns-then-has_no_length c =
    rw c.if-answers_head.false (no_body c.args.status c.args.body.now (sym c.has_no_length.ensures ∙ c.if-has_no_length.true))

pub returns-else-has_no_length : goal.returns-else-has_no_length
returns-else-has_no_length c =
    rw c.if-answers_head.false (some_body c.args.status c.args.body.now (sym c.has_no_length.ensures ∙ c.if-has_no_length.false))
