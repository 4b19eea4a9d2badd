use Rattle.cors_rules.proofs.GrantSteps.{told_grants}
use Rattle.cors_rules.proofs.laws.only_granted_origins_are_told.Goals as goal

pub returns : goal.returns
returns g c = λ allows policy handler request none some. told_grants allows policy request.head (handler request) none some
