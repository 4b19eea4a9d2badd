use Rattle.std.proofs.Common.{refl}
use Rattle.std.specs.Arc.{arc_value}
use Rattle.service_combine.specs.Applying.{Answers}
use Rattle.service_combine.proofs.MeaningLemmas.{Makes-given}
use Rattle.service_combine.proofs.apply_config.ApplyConfigServiceServiceFactory.new_service.Goals as goal

pub returns-clause-pollable : goal.returns-clause-pollable
returns-clause-pollable g c =
    let answers : Answers _ (arc_value c.args.self.now.srv).0 _ _ = record { lent = _; is = refl; answered = rw (c.deref.ensures, c.deref-2.ensures) at c.call.ensures } in
    (c.requires.1 _).pollable _ answers

pub returns-clause-made : goal.returns-clause-made
returns-clause-made g c =
    let answers : Answers _ (arc_value c.args.self.now.srv).0 _ _ = record { lent = _; is = refl; answered = rw (c.deref.ensures, c.deref-2.ensures) at c.call.ensures } in
    Makes-given _ _ _ (c.requires.1 _) _ answers
