use Rattle.std.proofs.Common.{subst, All}
use Rattle.http1_plain.specs.Spanned.{IsSpanOf}
use Rattle.http1_plain.proofs.SpanSteps.{all_tail}
use Rattle.http1_plain.proofs.header_lines.HeaderLinesIterator.next.Goals as goal

pub invariant_of-self : goal.invariant_of-self
invariant_of-self c =
    all_tail (IsSpanOf c.self.inside.text.now) c.in_ok-span.span.now c.in_ok-span.rest.now
    (subst (All (IsSpanOf c.self.inside.text.now)) c.in_ok-span.ensures.cases.0 c.self.invariant)
