use Rattle.std.proofs.Common.{Ok}
use Rattle.service_combine.proofs.StageLemmas.{Makes-through}
use Rattle.service_combine.proofs.apply_config_factory.ApplyConfigServiceFactoryServiceFactory.new_service.Goals as goal

pub returns-in-Ok-clause-pollable : goal.returns-in-Ok-clause-pollable
returns-in-Ok-clause-pollable g c =
    let made = rw c.deref.ensures at c.new_service.ensures.made in
    rw (c.new.ensures.future, c.in-Ok.ensures) (
      (c.new_service.ensures.pollable, λ s given. (made (Ok s) given).1.callable),
      λ s given.
          let from = c.requires.1 c.args.cfg s (made (Ok s) given.0).1.callable in
          record {
            callable = from.callable;
            makes = record { pollable = from.makes.pollable; callable = λ f t answered gives. tt };
          },
    )

pub returns-in-Ok-clause-made : goal.returns-in-Ok-clause-made
returns-in-Ok-clause-made g c =
    let made = rw c.deref.ensures at c.new_service.ensures.made in
    rw (c.new.ensures.future, c.in-Ok.ensures)
    (Makes-through _ _ _ _ _ _ _ _ _ _ _ _ made (λ s can. (c.requires.1 c.args.cfg s can).makes))
