use Rattle.std.proofs.Common.{sym, ap, ◌∙◌, subst}
use Rattle.http1_reader.specs.Readers.{decision_of}
use Rattle.http1_dispatcher.specs.Steps.{BeginsBody, IsCallOf}
use Rattle.http1_dispatcher.specs.declared.begin.Begun.TheVariants.{On}
use Rattle.http1_dispatcher.specs.declared.exchange.Exchange.{Exchange}
use Rattle.http1_dispatcher.proofs.Answering.{awaiting_is, body_refused, body_pauses, body_called}
use Rattle.http1_dispatcher.proofs.begin.begin_body.Goals as goal

pub returns-in-NeedMore : goal.returns-in-NeedMore
returns-in-NeedMore c =
    let w = awaiting_is c.args.exchange.now.stage c.requires.stage in λ peer.
    body_pauses c.args.rules peer c.args.exchange.now c.next.new.self w.0 w.1 w.2 w.3 c.requires.placed c.requires.limited c.in_ok-next.ensures.reader
    (ap (λ s. decision_of s c.next.new.self.unread) (sym c.in-NeedMore.is) ∙ c.in_ok-next.ensures.step)

pub returns-in-Body : goal.returns-in-Body
returns-in-Body c =
    let w = awaiting_is c.args.exchange.now.stage c.requires.stage in λ peer.
    body_called c.args.rules peer c.args.exchange.now c.next.new.self w.0 w.1 w.2 w.3 c.requires.placed c.requires.limited c.in_ok-next.ensures.reader
    c.in-Body.body c.call_awaited.new.exchange c.call_awaited.result
    (ap (λ s. decision_of s c.next.new.self.unread) (sym c.in-Body.is) ∙ c.in_ok-next.ensures.step)
    (subst (λ s. IsCallOf s c.in-Body.body c.call_awaited.new.exchange.stage c.call_awaited.result) w.3 c.call_awaited.ensures.stage)
    c.call_awaited.ensures.put c.call_awaited.ensures.reader c.call_awaited.ensures.out

pub returns-in_ok-refuse-in-Refused : goal.returns-in_ok-refuse-in-Refused
returns-in_ok-refuse-in-Refused c =
    let w = awaiting_is c.args.exchange.now.stage c.requires.stage in
    subst (λ (e : Exchange). BeginsBody c.args.rules c.args.exchange.now e On) (sym c.in_ok-refuse-in-Refused.ensures)
    (λ peer. body_refused c.args.rules peer c.args.exchange.now c.next.new.self w.0 w.1 w.2 w.3 c.requires.placed c.requires.limited c.in_ok-next.ensures.reader
    c.in-Refused.status (ap (λ s. decision_of s c.next.new.self.unread) (sym c.in-Refused.is) ∙ c.in_ok-next.ensures.step))
