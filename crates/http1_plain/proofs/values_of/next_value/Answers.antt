use Rattle.std.proofs.Common.{ℕ, List, subst, sym, ap, ◌∙◌, All}
use Rattle.std.specs.Prelude.{bytes_eq}
use Rattle.http_header.specs.Token.{lowercase}
use Rattle.http1_plain.specs.Spanned.{IsSpanOf}
use Rattle.http1_plain.proofs.SpanSteps.{all_tail, later}
use Rattle.http1_plain.proofs.values_of.next_value.Goals as goal

pub loop-span-preserved : goal.loop-span-preserved
loop-span-preserved c = record {
  left = later c.args.text.now c.loop-span.rest.now c.in-Some.behind.now c.in-Some.span.now c.args.name.now c.in-Some.ensures.cases.0
      (ap (λ (sent : List ℕ). bytes_eq (lowercase sent) c.args.name.now) (sym c.of.ensures) ∙ sym c.is_name.ensures ∙ c.if-is_name.false)
      ∙ c.loop-span.invariant.left;
  spans = all_tail (IsSpanOf c.args.text.now) c.in-Some.span.now c.in-Some.behind.now
      (subst (All (IsSpanOf c.args.text.now)) c.in-Some.ensures.cases.0 c.loop-span.invariant.spans);
}
