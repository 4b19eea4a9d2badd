use Rattle.std.proofs.Common.{List, ℕ, ap, sym, ◌∙◌}
use Rattle.http1_grammar.specs.Next.{found}
use Rattle.http1_plain.specs.Views.{view}
use Rattle.http1_head.specs.Steps.{step_of}
use Rattle.http1_head.proofs.ScanSteps.{from}
use Rattle.http1_head.proofs.PassingSteps.{unseen}
use Rattle.http1_head.proofs.NextSteps.{next_at, begins, found_at}
use Rattle.http1_head.proofs.next.next_head.Goals as goal

pub head_at_front-requires-clause-begins : goal.head_at_front-requires-clause-begins
head_at_front-requires-clause-begins c = begins c.args.bytes.now c.empty_lines-skipped.result c.empty_lines-skipped.ensures.rest

pub head_at_front-requires-clause-seen : goal.head_at_front-requires-clause-seen
head_at_front-requires-clause-seen c = unseen c.args.limits (from c.empty_lines-skipped.result c.args.bytes.now)

pub returns-in-Nothing-clause-step : goal.returns-in-Nothing-clause-step
returns-in-Nothing-clause-step c =
    ap (step_of (from c.empty_lines-skipped.result c.args.bytes.now)) (sym c.in-Nothing.is) ∙ c.in_ok-head_at_front.ensures.step
    ∙ next_at c.args.limits c.args.bytes.now c.empty_lines-skipped.result c.empty_lines-skipped.ensures.rest

pub returns-in-Refused-clause-step : goal.returns-in-Refused-clause-step
returns-in-Refused-clause-step c =
    ap (step_of (from c.empty_lines-skipped.result c.args.bytes.now)) (sym c.in-Refused.is) ∙ c.in_ok-head_at_front.ensures.step
    ∙ next_at c.args.limits c.args.bytes.now c.empty_lines-skipped.result c.empty_lines-skipped.ensures.rest

pub returns-in-Found-clause-step : goal.returns-in-Found-clause-step
returns-in-Found-clause-step c =
    ap (λ (rest : List ℕ). found (view c.in-Found.head) rest) (sym (found_at c.args.bytes.now c.empty_lines-skipped.result c.in-Found.used))
    ∙ ap (step_of (from c.empty_lines-skipped.result c.args.bytes.now)) (sym c.in-Found.is) ∙ c.in_ok-head_at_front.ensures.step
    ∙ next_at c.args.limits c.args.bytes.now c.empty_lines-skipped.result c.empty_lines-skipped.ensures.rest
