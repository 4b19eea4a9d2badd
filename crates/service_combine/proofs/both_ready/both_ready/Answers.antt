use Rattle.std.proofs.Common.{rules, inl, inr, Ok}
use Rattle.futures.specs.declared.task.Poll.TheVariants.{Ready, Pending}
use Rattle.service_combine.proofs.both_ready.both_ready.Goals as goal

pub returns-in-Ready-Err-clause-answer : goal.returns-in-Ready-Err-clause-answer
returns-in-Ready-Err-clause-answer g c = inl (search rules)

pub returns-in-Ready-Ok-clause-answer : goal.returns-in-Ready-Ok-clause-answer
returns-in-Ready-Ok-clause-answer g c = search rules

pub returns-in-Ready-Err-poll_ready-clause-answer : goal.returns-in-Ready-Err-poll_ready-clause-answer
returns-in-Ready-Err-poll_ready-clause-answer g c = inr (record { value = Pending; comes = search rules; holds = tt }, search rules)

pub returns-in-Ready-Ok-poll_ready-clause-answer : goal.returns-in-Ready-Ok-poll_ready-clause-answer
returns-in-Ready-Ok-poll_ready-clause-answer g c = inr (search rules, record { value = Ready (Ok tt); comes = search rules; holds = tt })

pub returns-in-Pending-poll_ready-clause-answer : goal.returns-in-Pending-poll_ready-clause-answer
returns-in-Pending-poll_ready-clause-answer g c = inr (search rules, record { value = Pending; comes = search rules; holds = tt })
