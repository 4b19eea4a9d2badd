use Rattle.http1_dispatcher.proofs.GoingSteps.{going_answered, going_out, open_no_call}
use Rattle.http1_dispatcher.proofs.inner_dispatcher.InnerDispatcher.begin.Goals as goal

pub returns-in-NeedMore-clause-undecided : goal.returns-in-NeedMore-clause-undecided
returns-in-NeedMore-clause-undecided g c =
    let begun = rw c.in-NeedMore.is at c.in_ok-begin.ensures in
    λ _. (
      going_answered _ _ _ _ _ _ c.args.self.now.exchange c.begin.new.exchange _ _ (open_no_call c.begin.new.exchange.stage begun.2.is_open) begun.1 (λ f are. begun.0 f) c.requires.going,
      begun.2,
    )

pub returns-in-On-clause-begun : goal.returns-in-On-clause-begun
returns-in-On-clause-begun g c =
    let begun = rw c.in-On.is at c.in_ok-begin.ensures in
    λ _. (
      going_answered _ _ _ _ _ _ c.args.self.now.exchange c.begin.new.exchange _ _ begun.2 begun.1 (λ f are. begun.0 f) c.requires.going,
      begun.3,
    )

pub returns-in-Called-clause-begun : goal.returns-in-Called-clause-begun
returns-in-Called-clause-begun g c =
    let begun = rw c.in-Called.is at c.in_ok-begin.ensures in
    λ _. (
      rw (c.call.ensures.terms, c.call.ensures.link) (going_out _ _ _ _ _ _ c.args.self.now.exchange c.begin.new.exchange c.call.new.self.exchange _ _
          c.call.ensures.exchange begun.0 begun.1 c.call.ensures.fits c.requires.going),
      rw c.call.ensures.exchange begun.3,
    )
