use Rattle.std.proofs.Common.{sym, ap, ◌∙◌, arith}
use Rattle.http1_grammar.specs.Framing.{framing}
use Rattle.http1_grammar.specs.Next.{found}
use Rattle.http1_head.specs.Framings.{capped}
use Rattle.http1_head.proofs.NextSteps.{judge_many, judge_none, judge_found, judge_above, judge_faulty}
use Rattle.http_plain.proofs.next.judge.Goals as goal

pub returns-then-count_lines-gt-MOST_LINES : goal.returns-then-count_lines-gt-MOST_LINES
returns-then-count_lines-gt-MOST_LINES c =
    judge_many c.args.limits c.args.text.now _ (omega (arith, c.count_lines.ensures, c.if-count_lines-gt-MOST_LINES.true))

pub returns-in_default : goal.returns-in_default
returns-in_default c =
    judge_none c.args.limits c.args.text.now _ (omega (arith, c.count_lines.ensures, c.if-count_lines-gt-MOST_LINES.false))
    (sym c.in_default.is ∙ c.in_ok-head.ensures)

pub returns-in_ok-rest-in-Empty : goal.returns-in_ok-rest-in-Empty
returns-in_ok-rest-in-Empty c =
    ap (found c.in-Some.head) c.in_ok-rest-in-Empty.ensures
    ∙ judge_found c.args.limits c.args.text.now _ c.in-Some.head c.in_ok-framing.field-0
    (omega (arith, c.count_lines.ensures, c.if-count_lines-gt-MOST_LINES.false))
    (sym c.in-Some.is ∙ c.in_ok-head.ensures)
    (c.in_ok-framing.ensures ∙ ap (λ most. capped most (framing c.in-Some.head)) c.body.ensures.value) c.in-Empty.is

pub returns-in-TooLarge : goal.returns-in-TooLarge
returns-in-TooLarge c =
    judge_above c.args.limits c.args.text.now _ c.in-Some.head
    (omega (arith, c.count_lines.ensures, c.if-count_lines-gt-MOST_LINES.false))
    (sym c.in-Some.is ∙ c.in_ok-head.ensures)
    (sym c.in-TooLarge.is ∙ c.in_ok-framing.ensures ∙ ap (λ most. capped most (framing c.in-Some.head)) c.body.ensures.value)

pub returns-in-Faulty : goal.returns-in-Faulty
returns-in-Faulty c =
    judge_faulty c.args.limits c.args.text.now _ c.in-Some.head
    (omega (arith, c.count_lines.ensures, c.if-count_lines-gt-MOST_LINES.false))
    (sym c.in-Some.is ∙ c.in_ok-head.ensures)
    (sym c.in-Faulty.is ∙ c.in_ok-framing.ensures ∙ ap (λ most. capped most (framing c.in-Some.head)) c.body.ensures.value)
