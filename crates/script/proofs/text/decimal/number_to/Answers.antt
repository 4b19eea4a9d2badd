use Rattle.std.proofs.Common.{◌+◌, sym, ◌∙◌, drop}
use Rattle.script.proofs.Numbers.{decimal_more, number_none}
use Rattle.script.proofs.text.decimal.number_to.Goals as goal

pub returns-then-value-most-clause-value : goal.returns-then-value-most-clause-value
returns-then-value-most-clause-value c =
    let more = decimal_more c.args.text.now c.loop-digit.value c.loop-digit.digit-index c.loop-digit.invariant.whole c.loop-digit-test.true in
    number_none _ c.args.text.now _ (drop (c.loop-digit.digit-index + 1) c.args.text.now) (sym c.is_decimal.ensures ∙ c.if-not-is_decimal.false) more (rw c.from.ensures at c.if-value-most.true)
