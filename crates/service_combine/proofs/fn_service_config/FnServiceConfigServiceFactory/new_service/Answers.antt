use Rattle.service_combine.proofs.MeaningLemmas.{Makes-given}
use Rattle.service_combine.proofs.fn_service_config.FnServiceConfigServiceFactory.new_service.Goals as goal

pub returns-clause-pollable : goal.returns-clause-pollable
returns-clause-pollable g c = (c.requires.1 _).pollable _ (rw c.deref.ensures at c.call.ensures)

pub returns-clause-made : goal.returns-clause-made
returns-clause-made g c = Makes-given _ _ _ (c.requires.1 _) _ (rw c.deref.ensures at c.call.ensures)
