use Rattle.std.proofs.Common.{sym, ◌∙◌}
use Rattle.http1_head.proofs.FramingSteps.{sized_within, sized_above}
use Rattle.http1_head.proofs.framing.length_framing.Goals as goal

pub returns-in-Some : goal.returns-in-Some
returns-in-Some c =
    sized_within c.args.most c.in-Some.size c.args.value.now (sym c.is_empty.ensures ∙ c.if-is_empty.false) (sym c.are_digits.ensures ∙ c.if-not-are_digits.false) c.in-Some.ensures

pub returns-in-None : goal.returns-in-None
returns-in-None c =
    sized_above c.args.most c.args.value.now (sym c.is_empty.ensures ∙ c.if-is_empty.false) (sym c.are_digits.ensures ∙ c.if-not-are_digits.false) c.in-None.ensures
