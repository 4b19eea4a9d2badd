use Rattle.std.proofs.Common.{refl}
use Rattle.http1_dispatcher.proofs.GoingSteps.{call_answers, going_answered}
use Rattle.http1_dispatcher.proofs.inner_dispatcher.InnerDispatcher.answer_call.Goals as goal

pub returns-in-Ok-respond-clause-turns : goal.returns-in-Ok-respond-clause-turns
returns-in-Ok-respond-clause-turns g c =
    let goes = c.in-Ok-respond.ensures.goes in (
      going_answered _ _ _ _ _ _ c.args.self.now.exchange c.respond.new.exchange _ _ goes.no_call goes.placed
          (λ f are. c.in-Ok-respond.ensures.owed c.args.self.now.terms.peer f
          (call_answers g.S.Future.Future g.X.Future.Future _ _ c.args.self.now.exchange.stage f c.in-Ready.result c.in-Ok.response c.requires.called
          (rw c.in-Response.is at c.requires.going.fits) c.in-Ready.ensures.value c.in-Ok.ensures are)) c.requires.going,
      goes.no_call,
      refl,
      goes.slower,
    )
