use Rattle.std.proofs.Common.{refl, rules}
use Rattle.server_worker.proofs.TakeSteps.{takes_queued, takes_stop, takes_strayed}
use Rattle.server_worker.proofs.connections.Connections.take_one.Goals as goal

pub returns-then-token-listeners-clause-takes : goal.returns-then-token-listeners-clause-takes
returns-then-token-listeners-clause-takes g c = takes_queued _ _ _ refl refl refl refl _ refl refl (search rules) c.push_back_reserved.ensures.items refl (search rules)

pub returns-else-token-listeners-clause-takes : goal.returns-else-token-listeners-clause-takes
returns-else-token-listeners-clause-takes g c = takes_strayed _ _ _ refl refl refl refl _ refl refl (search rules) refl c.push_reserved.ensures.items (search rules)

pub returns-in-Stop-clause-takes : goal.returns-in-Stop-clause-takes
returns-in-Stop-clause-takes g c = takes_stop _ _ _ (search rules) (search rules) (search rules) (search rules) c.in-Stop.graceful (search rules) (search rules) (search rules) (search rules) (search rules)
