use Rattle.std.proofs.Common.{ap, refl}
use Rattle.std.specs.Arc.{arc_value}
use Rattle.std.specs.Option.{option_map}
use Rattle.http1_grammar.specs.Answers.{is_answered}
use Rattle.http1_dispatcher.specs.Connecting.{relations_of}
use Rattle.http1_dispatcher.proofs.GoingSteps.{ask_answers, going_answered}
use Rattle.http1_dispatcher.proofs.inner_dispatcher.InnerDispatcher.answer_ask.Goals as goal

pub returns-in-Ok-clause-turns : goal.returns-in-Ok-clause-turns
returns-in-Ok-clause-turns g c =
    let goes = c.in-Ok.ensures.goes in (
      going_answered _ _ _ _ _ _ c.args.self.now.exchange c.let_come.new.exchange _ _ goes.no_call goes.placed
          (λ f are. c.in-Ok.ensures.owed c.args.self.now.terms.peer f
          (ask_answers g.S.Future.Future g.X.Future.Future (relations_of g.S.Service g.S.Error.ErrorResponse.response g.X.Service g.X.Error.ErrorResponse.response (arc_value c.args.self.now.terms.flow))
          _ c.args.self.now.exchange.stage f _ _ c.requires.asked
          (rw c.in-Expectation.is at c.requires.going.fits) c.in-Ready-Ok.ensures.value (rw c.in-Ready-Ok.field-0-is refl) are)) c.requires.going,
      goes.no_call,
      refl,
      goes.slower,
    )

pub returns-in-Ok-turn_away-clause-turns : goal.returns-in-Ok-turn_away-clause-turns
returns-in-Ok-turn_away-clause-turns g c =
    let goes = c.in-Ok-turn_away.ensures.goes in (
      going_answered _ _ _ _ _ _ c.args.self.now.exchange c.turn_away.new.exchange _ _ goes.no_call goes.placed
          (λ f are. c.in-Ok-turn_away.ensures.owed c.args.self.now.terms.peer f
          (ask_answers g.S.Future.Future g.X.Future.Future (relations_of g.S.Service g.S.Error.ErrorResponse.response g.X.Service g.X.Error.ErrorResponse.response (arc_value c.args.self.now.terms.flow))
          _ c.args.self.now.exchange.stage f _ _ c.requires.asked
          (rw c.in-Expectation.is at c.requires.going.fits) c.in-Ready-Err.ensures.value (rw c.in-Ready-Err.field-0-is (ap (option_map (λ x. is_answered x)) c.in-Ok-into_response.ensures)) are)) c.requires.going,
      goes.no_call,
      refl,
      goes.slower,
    )
