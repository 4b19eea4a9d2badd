use Rattle.std.proofs.Common.{◌≡◌, None, ap, inl, inr, refl, subst, ◌∙◌}
use Rattle.std.specs.Arc.{arc_value}
use Rattle.http1_plain.specs.Views.{request_of}
use Rattle.service_core.specs.Shown.{applied, wrapped}
use Rattle.cors_answer.proofs.Ready.{policed_ready}
use Rattle.cors_answer.specs.Transforms.{Refuses}
use Rattle.cors_rules.specs.Answers.{cors}
use Rattle.cors_rules.specs.Policy.{Builder}
use Rattle.cors_rules.specs.Refusing.{config_error}
use Rattle.handlers.specs.contracts.handler_service.HandlerServiceServiceFactoryRequest.TheImpl.{ghosts}
use Rattle.handlers.specs.Handlers.{handler_response, response_of_fault}
use Rattle.http_service.proofs.Ready.{ready_from}
use Rattle.script.specs.Rules.{script_rules}
use Rattle.script.specs.declared.handler.Handler.{Handler}
use Rattle.script.specs.declared.policy.script_rule.ScriptRule.{ScriptRule}
use Rattle.script_service.specs.Factories.{replay_builder, replay_site}
use Rattle.script_service.proofs.Creating.{all_parts, echo_upgrades, echoes_by, leaves_from, no_part, refuses_from, serves_from}
use Rattle.script_service.proofs.Policing.{expect_function, policed_function}
use Rattle.script_service.proofs.replay_factory.ReplayFactoryServerServiceFactory.create.Goals as goal

pub returns : goal.returns
returns g c =
    let f = c.over.result in
    let self = c.args.self.now in
    let builder_is : arc_value (applied f.service) ≡ replay_builder self =
    rw c.over.ensures.service c.in_ok-policed.ensures.applied in
    let handler_is : (wrapped f.service).handler ≡ self.settings.handler =
    rw c.over.ensures.service c.in_ok-policed.ensures.wrapped in
    record {
      callable = record {
        callable = (tt, λ s can. can);
        askable = tt;
        upgradable = all_parts f.upgrade _ (λ v. (tt, echo_upgrades g.L.Link));
      };
      serves = λ link r given. serves_from _ g.L.Link (replay_site self) link r given (
        λ request r response m is.
            policed_function (arc_value (applied f.service)).policy (wrapped f.service).handler _ request (m.comes.answers request) r response m.holds is
            ∙ ap (λ (b : Builder ScriptRule). cors script_rules b.policy (handler_response (wrapped f.service).handler) (request_of request)) builder_is
            ∙ ap (λ (h : Handler). cors script_rules (replay_builder self).policy (handler_response h) (request_of request)) handler_is,
        λ request r answer m is.
            expect_function self.settings.refuses_expectations request r answer
            (rw c.over.ensures.expect at m) is,
      )
          (rw (c.over.ensures.limits, c.over.ensures.keep_alive, c.over.ensures.upgrade) refl)
          (λ asked handed h. echoes_by f.upgrade _ _ c.over.ensures.upgrade h);
      leaves = λ link future begun left stands. leaves_from _ g.L.Link (replay_site self) link left (begun.stands left stands) (
        λ request r response m is.
            policed_function (arc_value (applied f.service)).policy (wrapped f.service).handler _ request (m.comes.answers request) r response m.holds is
            ∙ ap (λ (b : Builder ScriptRule). cors script_rules b.policy (handler_response (wrapped f.service).handler) (request_of request)) builder_is
            ∙ ap (λ (h : Handler). cors script_rules (replay_builder self).policy (handler_response h) (request_of request)) handler_is,
        λ request r answer m is.
            expect_function self.settings.refuses_expectations request r answer
            (rw c.over.ensures.expect at m) is,
      )
          (rw (c.over.ensures.limits, c.over.ensures.keep_alive, c.over.ensures.upgrade) refl)
          (λ asked handed h. echoes_by f.upgrade _ _ c.over.ensures.upgrade h);
      readies = λ answer ready. ready_from _ _ _ f.upgrade answer ready
          (policed_ready response_of_fault ghosts _ (wrapped f.service) (λ answer p. p))
          (λ answer p. p) (λ v answer p. p);
      inits = λ error fails. refuses_from (replay_builder self) _ _ _ _ _ error fails
          (λ e p. elim p [
            | inl turned ↦ absurd turned.comes
            | inr by ↦ elim by [
              | inl refuses ↦ subst (λ (b : Builder ScriptRule). Refuses b e) builder_is refuses
              | inr memory ↦ rw memory tt
            ]
          ])
          (λ e p. p) (λ e p. no_part f.upgrade _ (λ v q. q) p);
      makes = λ m. subst (λ (b : Builder ScriptRule). config_error b ≡ None) builder_is m.0.1;
    }
