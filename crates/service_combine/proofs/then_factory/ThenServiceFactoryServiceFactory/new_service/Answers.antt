use Rattle.std.proofs.Common.{refl, inl, inr}
use Rattle.std.specs.Arc.{arc_value}
use Rattle.service_core.specs.Meaning.{Through}
use Rattle.service_combine.proofs.PairLemmas.{BothReady-within, Makes-pair}
use Rattle.service_combine.proofs.SameLemmas.{OrElse-within, Through-both}
use Rattle.service_combine.proofs.then_factory.ThenServiceFactoryServiceFactory.new_service.Goals as goal

pub returns-in-Ok-clause-made : goal.returns-in-Ok-clause-made
returns-in-Ok-clause-made g c =
    let first = rw c.deref.ensures at c.new_service.ensures.made in
    let second = rw c.deref-in-Ok.ensures at c.new_service-in-Ok.ensures.made in
    let copied : (P : g.row.A-Config.Denot → Type 0) → P c.in-Ok.copy → Through (g.A.Config.Clone.is_clone c.args.cfg) P =
    (λ P holds. record { value = c.in-Ok.copy; comes = c.in-Ok.ensures.cases; holds = holds }) in
    let parts = arc_value c.args.self.now.parts in
    rw c.of.ensures
    (Makes-pair _ _ _ _ _ _ _ _ _ _ _ _ _ _ _ _ _ _ (λ made. arc_value made.parts) _ _ _ first second
    (λ made a b. record {
      callable = (a.callable, b.callable);
      answers = λ q r given. OrElse-within (Through-both (λ s may. copied _ (a.answers q s may)) (λ s. b.answers s r)) given;
      readiness = BothReady-within (g.A.Service.Service.may_ready (arc_value made.parts).0)
          (λ r. Through (g.A.Config.Clone.is_clone c.args.cfg) (λ copy. g.A.ServiceFactory.may_ready parts.0 copy r))
          (g.B.Service.Service.may_ready (arc_value made.parts).1)
          (g.B.ServiceFactory.may_ready parts.1 c.args.cfg)
          (λ r may. copied _ (a.readiness r may)) b.readiness;
      futures = λ q f begun. (begun.0, λ r given. OrElse-within (Through-both (λ s may. copied _ (a.answers q s may)) (λ s. b.answers s r)) (begun.1 r given));
    })
    (λ one other. (copied _ one, other))
    (λ e init. inl (copied _ init))
    (λ e init. inr (inl init)) (inr (inr refl)))
