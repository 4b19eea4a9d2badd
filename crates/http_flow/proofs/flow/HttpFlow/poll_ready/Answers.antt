use Rattle.std.proofs.Common.{inr}
use Rattle.http_flow.proofs.flow.HttpFlow.poll_ready.Goals as goal

pub returns-in-Pending-part_ready-clause-answer : goal.returns-in-Pending-part_ready-clause-answer
returns-in-Pending-part_ready-clause-answer g c = inr (inr (
  rw c.in-Ready-Ok.field-0-is at c.in-Ready-Ok.ensures.answer,
  rw c.in-Ready-Ok-poll_ready.field-0-is at c.in-Ready-Ok-poll_ready.ensures.answer,
  c.in-Pending-part_ready.ensures.answer,
))

pub returns-in-Ready-Err-part_ready-clause-answer : goal.returns-in-Ready-Err-part_ready-clause-answer
returns-in-Ready-Err-part_ready-clause-answer g c = (
  rw c.in-Ready-Ok.field-0-is at c.in-Ready-Ok.ensures.answer,
  rw c.in-Ready-Ok-poll_ready.field-0-is at c.in-Ready-Ok-poll_ready.ensures.answer,
  rw c.in-Ready-Err-part_ready.field-0-is at c.in-Ready-Err-part_ready.ensures.answer,
)

pub returns-in-Ready-Ok-part_ready-clause-answer : goal.returns-in-Ready-Ok-part_ready-clause-answer
returns-in-Ready-Ok-part_ready-clause-answer g c = (
  rw c.in-Ready-Ok.field-0-is at c.in-Ready-Ok.ensures.answer,
  rw c.in-Ready-Ok-poll_ready.field-0-is at c.in-Ready-Ok-poll_ready.ensures.answer,
  rw c.in-Ready-Ok-part_ready.field-0-is at c.in-Ready-Ok-part_ready.ensures.answer,
)
