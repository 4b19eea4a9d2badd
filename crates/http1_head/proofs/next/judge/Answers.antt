use Rattle.std.proofs.Common.{sym, ap, ◌∙◌, arith, option_map, inl, inr, refl}
use Rattle.http1_plain.specs.Views.{view}
use Rattle.http1_head.specs.Framings.{capped}
use Rattle.http1_grammar.specs.Framing.{framing}
use Rattle.http1_head.proofs.NextSteps.{judge_many, judge_none, judge_found, judge_above, judge_faulty, framed_empty, framed_sized, framed_chunked}
use Rattle.http1_head.proofs.next.judge.Goals as goal

pub returns-then-lines-gt-MOST_LINES-clause-step : goal.returns-then-lines-gt-MOST_LINES-clause-step
returns-then-lines-gt-MOST_LINES-clause-step c = λ bytes.
    judge_many c.args.limits c.args.text.now _ (omega (arith, c.requires.lines, c.if-lines-gt-MOST_LINES.true))

pub returns-in_default-clause-step : goal.returns-in_default-clause-step
returns-in_default-clause-step c = λ bytes.
    judge_none c.args.limits c.args.text.now _ (omega (arith, c.requires.lines, c.if-lines-gt-MOST_LINES.false))
    (ap (option_map view) (sym c.in_default.is) ∙ c.in_ok-head.ensures)

pub returns-in-Empty-clause-step : goal.returns-in-Empty-clause-step
returns-in-Empty-clause-step c = λ bytes. rw c.new-head.ensures
    (judge_found c.args.limits c.args.text.now _ (view c.in-Some.head) _
    (omega (arith, c.requires.lines, c.if-lines-gt-MOST_LINES.false))
    (ap (option_map view) (sym c.in-Some.is) ∙ c.in_ok-head.ensures)
    (c.in-Empty.ensures (view c.in-Some.head) c.of-fields.ensures refl ∙ ap (λ most. capped most (framing (view c.in-Some.head))) c.body.ensures.value) (inl refl))

pub returns-in-Empty-clause-framed : goal.returns-in-Empty-clause-framed
returns-in-Empty-clause-framed c = rw c.new-head.ensures (framed_empty c.body.result (framing (view c.in-Some.head)) (c.in-Empty.ensures (view c.in-Some.head) c.of-fields.ensures refl))

pub returns-in-Sized-clause-step : goal.returns-in-Sized-clause-step
returns-in-Sized-clause-step c = λ bytes. rw c.new-head.ensures
    (judge_found c.args.limits c.args.text.now _ (view c.in-Some.head) _
    (omega (arith, c.requires.lines, c.if-lines-gt-MOST_LINES.false))
    (ap (option_map view) (sym c.in-Some.is) ∙ c.in_ok-head.ensures)
    (c.in-Sized.ensures (view c.in-Some.head) c.of-fields.ensures refl ∙ ap (λ most. capped most (framing (view c.in-Some.head))) c.body.ensures.value) (inr (inl (c.in-Sized.size, refl))))

pub returns-in-Sized-clause-framed : goal.returns-in-Sized-clause-framed
returns-in-Sized-clause-framed c = rw c.new-head.ensures (framed_sized c.body.result c.in-Sized.size (framing (view c.in-Some.head)) (c.in-Sized.ensures (view c.in-Some.head) c.of-fields.ensures refl))

pub returns-in-Chunked-clause-step : goal.returns-in-Chunked-clause-step
returns-in-Chunked-clause-step c = λ bytes. rw c.new-head.ensures
    (judge_found c.args.limits c.args.text.now _ (view c.in-Some.head) _
    (omega (arith, c.requires.lines, c.if-lines-gt-MOST_LINES.false))
    (ap (option_map view) (sym c.in-Some.is) ∙ c.in_ok-head.ensures)
    (c.in-Chunked.ensures (view c.in-Some.head) c.of-fields.ensures refl ∙ ap (λ most. capped most (framing (view c.in-Some.head))) c.body.ensures.value) (inr (inr refl)))

pub returns-in-Chunked-clause-framed : goal.returns-in-Chunked-clause-framed
returns-in-Chunked-clause-framed c = rw c.new-head.ensures (framed_chunked c.body.result (framing (view c.in-Some.head)) (c.in-Chunked.ensures (view c.in-Some.head) c.of-fields.ensures refl))

pub returns-in-TooLarge-clause-step : goal.returns-in-TooLarge-clause-step
returns-in-TooLarge-clause-step c = λ bytes.
    judge_above c.args.limits c.args.text.now _ (view c.in-Some.head)
    (omega (arith, c.requires.lines, c.if-lines-gt-MOST_LINES.false))
    (ap (option_map view) (sym c.in-Some.is) ∙ c.in_ok-head.ensures)
    (c.in-TooLarge.ensures (view c.in-Some.head) c.of-fields.ensures refl ∙ ap (λ most. capped most (framing (view c.in-Some.head))) c.body.ensures.value)

pub returns-in-Faulty-clause-step : goal.returns-in-Faulty-clause-step
returns-in-Faulty-clause-step c = λ bytes.
    judge_faulty c.args.limits c.args.text.now _ (view c.in-Some.head)
    (omega (arith, c.requires.lines, c.if-lines-gt-MOST_LINES.false))
    (ap (option_map view) (sym c.in-Some.is) ∙ c.in_ok-head.ensures)
    (c.in-Faulty.ensures (view c.in-Some.head) c.of-fields.ensures refl ∙ ap (λ most. capped most (framing (view c.in-Some.head))) c.body.ensures.value)
