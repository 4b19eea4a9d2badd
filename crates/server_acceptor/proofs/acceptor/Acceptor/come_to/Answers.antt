use Rattle.std.proofs.Common.{inl, inr, rules}
use Rattle.server_acceptor.proofs.WordSteps.{none_due}
use Rattle.server_acceptor.proofs.acceptor.Acceptor.come_to.Goals as goal

pub returns-in-None-clause-due : goal.returns-in-None-clause-due
returns-in-None-clause-due g c due = absurd (none_due c.come_to_end.new.self c.args.now (search rules) due)

pub returns-in-None-clause-forces : goal.returns-in-None-clause-forces
returns-in-None-clause-forces g c v is = inl (c.come_to_end.ensures.forces v is)

pub returns-in-None-clause-closes : goal.returns-in-None-clause-closes
returns-in-None-clause-closes g c v is = elim (c.come_to_end.ensures.closes v is) [
  | inl before ↦ inl before
  | inr done ↦ inr (inr done)
]
