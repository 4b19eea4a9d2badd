use Rattle.std.proofs.Common.{sym, ◌∙◌}
use Rattle.http1_plain.proofs.SentSteps.{rest_later, rest_other, rest_none}
use Rattle.http1_plain.proofs.sent_name.is_lowered.Goals as goal

pub returns-then-to_ascii_lowercase-name : goal.returns-then-to_ascii_lowercase-name
returns-then-to_ascii_lowercase-name c =
    sym (sym c.loop-place.invariant
    ∙ rest_other c.args.sent.now c.args.name.now c.loop-place.place c.loop-place-test.true c.requires
    (λ e. c.if-to_ascii_lowercase-name.true (c.to_ascii_lowercase.ensures.value ∙ e)))

pub loop-place-preserved : goal.loop-place-preserved
loop-place-preserved c =
    rest_later c.args.sent.now c.args.name.now c.loop-place.place c.loop-place-test.true c.requires
    (sym c.to_ascii_lowercase.ensures.value ∙ c.if-to_ascii_lowercase-name.false)
    ∙ c.loop-place.invariant

pub returns : goal.returns
returns c =
    sym (sym c.loop-place.invariant
    ∙ rest_none c.args.sent.now c.args.name.now c.loop-place.place c.loop-place-test.false c.requires)
