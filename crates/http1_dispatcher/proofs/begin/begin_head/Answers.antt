use Rattle.std.proofs.Common.{sym, ap, ◌∙◌, subst}
use Rattle.std.proofs.lemmas.Result.{IfOk-weaker}
use Rattle.http1_reader.specs.Readers.{decision_of}
use Rattle.http1_dispatcher.specs.Steps.{Begins}
use Rattle.http1_dispatcher.specs.declared.begin.Begun.TheVariants.{On}
use Rattle.http1_dispatcher.specs.declared.exchange.Exchange.{Exchange}
use Rattle.http1_dispatcher.proofs.Answering.{body_behind, head_begins, refusal_begins, head_waits}
use Rattle.http1_dispatcher.proofs.begin.begin_head.Goals as goal

pub returns-in-NeedMore : goal.returns-in-NeedMore
returns-in-NeedMore c =
    head_waits c.args.rules c.args.peer c.args.exchange.now c.next.new.self c.requires.stage c.requires.placed c.requires.limited c.in_ok-next.ensures.reader
    (ap (λ s. decision_of s c.next.new.self.unread) (sym c.in-NeedMore.is) ∙ c.in_ok-next.ensures.step)

pub returns-in-Head : goal.returns-in-Head
returns-in-Head c =
    IfOk-weaker c.take_head.result _ _ (λ begun headed. head_begins c.args.rules c.args.peer c.args.exchange.now c.next.new.self c.requires.stage c.requires.placed
    c.requires.limited c.in_ok-next.ensures.reader c.in-Head.head
    (ap (λ s. decision_of s c.next.new.self.unread) (sym c.in-Head.is) ∙ c.in_ok-next.ensures.step)
    c.take_head.new.exchange begun headed) c.take_head.ensures

pub returns-in_ok-refuse-in-Refused : goal.returns-in_ok-refuse-in-Refused
returns-in_ok-refuse-in-Refused c =
    subst (λ (e : Exchange). Begins c.args.rules c.args.peer c.args.exchange.now e On) (sym c.in_ok-refuse-in-Refused.ensures)
    (refusal_begins c.args.rules c.args.peer c.args.exchange.now c.next.new.self c.requires.stage c.requires.placed c.requires.limited c.in_ok-next.ensures.reader
    c.in-Refused.status (ap (λ s. decision_of s c.next.new.self.unread) (sym c.in-Refused.is) ∙ c.in_ok-next.ensures.step))

pub take_head-requires-clause-at_body : goal.take_head-requires-clause-at_body
take_head-requires-clause-at_body c =
    body_behind c.args.rules c.args.peer c.args.exchange.now c.next.new.self c.requires.stage c.requires.placed c.requires.limited c.in_ok-next.ensures.reader
    c.in-Head.head (ap (λ s. decision_of s c.next.new.self.unread) (sym c.in-Head.is) ∙ c.in_ok-next.ensures.step)
