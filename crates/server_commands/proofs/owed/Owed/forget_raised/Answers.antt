use Rattle.std.proofs.Common.{◌∙◌}
use Rattle.server_commands.proofs.Owing.{forgotten, kept}
use Rattle.server_commands.proofs.owed.Owed.forget_raised.Goals as goal

pub returns-then-self-clause-left : goal.returns-then-self-clause-left
returns-then-self-clause-left c = c.clear.ensures.items ∙ forgotten c.args.self.now.is_settled c.args.self.now.raisers.items c.if-self.true c.args.self.now.known

pub returns-else-self-clause-left : goal.returns-else-self-clause-left
returns-else-self-clause-left c = kept c.args.self.now.is_settled c.args.self.now.raisers.items c.if-self.false c.args.self.now.known
