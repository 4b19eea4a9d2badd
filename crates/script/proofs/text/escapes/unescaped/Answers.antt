use Rattle.std.proofs.Common.{refl}
use Rattle.script.proofs.Texts.{after_plain, after_escaped, after_hex, no_letter, no_digits, no_escape}
use Rattle.script.proofs.text.escapes.unescaped.Goals as goal

pub loop-rest-preserved-then-first-ne92 : goal.loop-rest-preserved-then-first-ne92
loop-rest-preserved-then-first-ne92 c = after_plain _ _ _ c.loop-rest.rest.now _ c.loop-rest.invariant c.in_ok-push.ensures.items c.in-len1-up.len_at_least c.if-first-ne92.true refl

pub loop-rest-preserved-then-letter-eq120 : goal.loop-rest-preserved-then-letter-eq120
loop-rest-preserved-then-letter-eq120 c = after_hex _ _ _ c.loop-rest.rest.now _ c.loop-rest.invariant c.in_ok-push-2.ensures.items
    c.in-len1-up.len_at_least c.in-len1-up-after.len_at_least c.in-len2-up.len_at_least c.if-first-ne92.false c.if-letter-eq120.true c.in-Some.ensures

pub loop-rest-preserved : goal.loop-rest-preserved
loop-rest-preserved c = after_escaped _ _ _ c.loop-rest.rest.now _ c.loop-rest.invariant c.in_ok-push-3.ensures.items
    c.in-len1-up.len_at_least c.in-len1-up-after.len_at_least c.if-first-ne92.false c.if-letter-eq120.false c.in-Some-escaped.ensures

pub returns-in_default-after : goal.returns-in_default-after
returns-in_default-after c = no_letter _ _ c.loop-rest.rest.now c.loop-rest.invariant c.in-len1-up.len_at_least c.in_default-after.len_below c.if-first-ne92.false

pub returns-in_default-after-2 : goal.returns-in_default-after-2
returns-in_default-after-2 c = no_digits _ _ c.loop-rest.rest.now c.loop-rest.invariant
    c.in-len1-up.len_at_least c.in-len1-up-after.len_at_least c.in_default-after-2.len_below c.if-first-ne92.false c.if-letter-eq120.true

pub returns-in_default-escaped : goal.returns-in_default-escaped
returns-in_default-escaped c = no_escape _ _ c.loop-rest.rest.now c.loop-rest.invariant
    c.in-len1-up.len_at_least c.in-len1-up-after.len_at_least c.if-first-ne92.false c.if-letter-eq120.false c.in_default-escaped.ensures
