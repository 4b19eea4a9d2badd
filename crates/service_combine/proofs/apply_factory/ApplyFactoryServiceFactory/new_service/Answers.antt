use Rattle.std.proofs.Common.{inl, ◌≡◌, ◌∙◌}
use Rattle.std.specs.Arc.{arc_value}
use Rattle.service_combine.proofs.MeaningLemmas.{Makes-part, WithPart-pair}
use Rattle.service_combine.proofs.apply_factory.ApplyFactoryServiceFactory.new_service.Goals as goal

pub returns-in-Ok-clause-made : goal.returns-in-Ok-clause-made
returns-in-Ok-clause-made g c =
    rw c.of.ensures
    (λ r given. Makes-part _ _ _ _ _ _ _ _ _ _ _ (λ made. made.service) (λ made. arc_value made.wrap_fn ≡ arc_value c.in-Ok.f)
    _ c.new_service.ensures.made
    (λ made same lies. record {
      callable = (lies.callable, rw (same ∙ c.in-Ok.ensures) (c.requires.1 _ lies.callable));
      answers = λ q r given. record { value = made.service; comes = lies; holds = rw (same ∙ c.in-Ok.ensures) at given };
      readiness = lies.readiness;
      futures = λ q f begun.
          let answered = rw (same ∙ c.in-Ok.ensures) at begun.0 in
          (record { value = made.service; comes = lies; holds = answered }, begun.1);
    })
    (λ e init. inl init) r (WithPart-pair (λ made. made.service) (λ made. made.wrap_fn) (λ f. arc_value f ≡ arc_value c.in-Ok.f)
    (g.SF.Future.Future.gives c.new_service.result) r given))
