use Rattle.std.proofs.Common.{inl, ◌≡◌, ◌∙◌}
use Rattle.std.specs.Arc.{arc_value}
use Rattle.service_combine.proofs.MeaningLemmas.{Makes-part, WithPart-pair}
use Rattle.service_combine.proofs.SameLemmas.{OrElse-within, Through-comes}
use Rattle.service_combine.proofs.map_service_factory.MapServiceFactoryServiceFactory.new_service.Goals as goal

pub returns-in-Ok-clause-made : goal.returns-in-Ok-clause-made
returns-in-Ok-clause-made g c =
    rw c.of.ensures
    (λ r given. Makes-part _ _ _ _ _ _ _ _ _ _ _ (λ made. made.service) (λ made. arc_value made.f ≡ arc_value c.in-Ok.f)
    _ c.new_service.ensures.made
    (λ made same lies. record {
      callable = (lies.callable, rw (same ∙ c.in-Ok.ensures) c.requires.1);
      answers = λ q r given. OrElse-within (Through-comes (lies.answers q)) (rw (same ∙ c.in-Ok.ensures) at given);
      readiness = lies.readiness;
      futures = λ q f begun. (
        begun.0,
        λ r given.
            OrElse-within (Through-comes (lies.answers q)) (rw (same ∙ c.in-Ok.ensures) at (begun.1 r given)),
      );
    })
    (λ e init. inl init) r (WithPart-pair (λ made. made.service) (λ made. made.f) (λ f. arc_value f ≡ arc_value c.in-Ok.f)
    (g.A.Future.Future.gives c.new_service.result) r given))
