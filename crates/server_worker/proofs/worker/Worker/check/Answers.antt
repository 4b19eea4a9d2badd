use Rattle.std.proofs.Common.{length, refl, rules}
use Rattle.server_worker.proofs.AskSteps.{checks_unmade}
use Rattle.server_worker.proofs.worker.Worker.check.Goals as goal

pub returns-then-not-self-clause-checks : goal.returns-then-not-self-clause-checks
returns-then-not-self-clause-checks g c = checks_unmade (g.F.ServerServiceFactory.may_ready c.args.self.now.factory) _ _ _ _ _ (length c.args.self.now.services.slots.items) refl (search rules)
