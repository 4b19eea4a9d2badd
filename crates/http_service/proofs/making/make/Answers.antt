use Rattle.http_service.proofs.Made.{HandlesBy-within}
use Rattle.http_service.proofs.making.make.Goals as goal

pub returns-clause-made : goal.returns-clause-made
returns-clause-made g c = HandlesBy-within _ _ _ c.make.ensures.made
