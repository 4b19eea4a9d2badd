use Rattle.std.proofs.Common.{sym, ap, ◌∙◌, subst, refl}
use Rattle.http1_reader.specs.Readers.{decision_of}
use Rattle.http1_dispatcher.specs.Steps.{BeginsBody, awaiting}
use Rattle.http1_dispatcher.specs.declared.begin.Begun.TheVariants.{On}
use Rattle.http1_dispatcher.specs.declared.exchange.Exchange.{Exchange}
use Rattle.http1_dispatcher.proofs.Answering.{body_refused, body_pauses, body_called}
use Rattle.http1_dispatcher.proofs.begin.take_body.Goals as goal

pub returns-in_ok-new-in-NeedMore : goal.returns-in_ok-new-in-NeedMore
returns-in_ok-new-in-NeedMore c = rw c.in_ok-new-in-NeedMore.ensures (λ peer.
    body_pauses c.args.rules peer (awaiting c.args.head c.args.peer c.args.reply c.args.exchange.now) c.next.new.self c.args.head c.args.peer c.args.reply refl
    c.requires.placed c.requires.limited c.in_ok-next.ensures.reader
    (ap (λ s. decision_of s c.next.new.self.unread) (sym c.in-NeedMore.is) ∙ c.in_ok-next.ensures.step))

pub returns-in-Body : goal.returns-in-Body
returns-in-Body c = λ peer.
    body_called c.args.rules peer (awaiting c.args.head c.args.peer c.args.reply c.args.exchange.now) c.next.new.self c.args.head c.args.peer c.args.reply refl
    c.requires.placed c.requires.limited c.in_ok-next.ensures.reader c.in-Body.body c.call.new.exchange c.call.result
    (ap (λ s. decision_of s c.next.new.self.unread) (sym c.in-Body.is) ∙ c.in_ok-next.ensures.step)
    c.call.ensures.stage c.call.ensures.put c.call.ensures.reader c.call.ensures.out

pub returns-in_ok-refuse-in-Refused : goal.returns-in_ok-refuse-in-Refused
returns-in_ok-refuse-in-Refused c =
    subst (λ (e : Exchange). BeginsBody c.args.rules (awaiting c.args.head c.args.peer c.args.reply c.args.exchange.now) e On) (sym c.in_ok-refuse-in-Refused.ensures)
    (λ peer. body_refused c.args.rules peer (awaiting c.args.head c.args.peer c.args.reply c.args.exchange.now) c.next.new.self c.args.head c.args.peer c.args.reply refl
    c.requires.placed c.requires.limited c.in_ok-next.ensures.reader
    c.in-Refused.status (ap (λ s. decision_of s c.next.new.self.unread) (sym c.in-Refused.is) ∙ c.in_ok-next.ensures.step))
