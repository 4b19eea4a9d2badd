use Rattle.std.proofs.Common.{◌-◌, ◌++◌, ◌∙◌, ap}
use Rattle.http1_grammar.specs.Answers.{done, answers_within}
use Rattle.http_plain.specs.Echo.{echoing}
use Rattle.http_plain.specs.HandedOn.{step_by}
use Rattle.http_plain.proofs.TurnSteps.{no_count, ends, goes_on}
use Rattle.http_plain.proofs.connection.+answers_within.Goals as goal

pub returns-then-count-eq0 : goal.returns-then-count-eq0
returns-then-count-eq0 t c = λ peer.
    ap (λ written. (written, done)) c.new.ensures ∙ no_count c.args.count (echoing c.args.limits) peer c.args.bytes.now c.if-count-eq0.true

pub returns-in_default : goal.returns-in_default
returns-in_default t c = λ peer.
    ends c.args.count (echoing c.args.limits) peer c.args.bytes.now c.in_ok-written.field-0.written c.in_ok-written.field-0.rest (step_by c.in_ok-step.step)
    c.if-count-eq0.false c.in_ok-step.ensures
    (c.in_ok-written.ensures peer (answers_within (c.args.count - 1) (echoing c.args.limits) peer)) c.in_default.is

pub returns : goal.returns
returns t c = λ peer.
    goes_on c.args.count (echoing c.args.limits) peer c.args.bytes.now c.in_ok-written.field-0.written c.in_ok-written.field-0.rest (step_by c.in_ok-step.step)
    c.if-count-eq0.false c.in_ok-step.ensures
    (c.in_ok-written.ensures peer (answers_within (c.args.count - 1) (echoing c.args.limits) peer))
    c.in-Some.rest c.as_bytes.result.now c.in_ok-behind.behind _ c.in-Some.is c.as_bytes.ensures
    (c.in_ok-behind.ensures peer)
    (c.in_ok-push_all.ensures.ok ∙ ap (λ behind. c.in_ok-written.field-0.written ++ behind) c.as_bytes-2.ensures)
