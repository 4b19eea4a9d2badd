use Rattle.std.proofs.Common.{◌==◌, length, rules, ap, ◌∙◌, codes, arith}
use Rattle.std.specs.Prelude.{◌||◌}
use Rattle.std.proofs.lemmas.List.{length_push}
use Rattle.std.proofs.lemmas.Iterator.Splits.{YieldsList-from_slice_split}
use Rattle.std.proofs.lemmas.Iterator.Consumers.{YieldsList-turn, YieldsList-end}
use Rattle.http1_head.proofs.OptionSteps.{parts, is_part, adds_more, adds_all, lists_added}
use Rattle.http1_head.proofs.options.ConnectionOptions.and.Goals as goal

pub loop-option-preserved : goal.loop-option-preserved
loop-option-preserved c =
    let here = YieldsList-turn (YieldsList-from_slice_split _ (λ b. b == 44) c.args.value.now (cc) (cc) (cc) (λ x b q called. search rules)) c.loop-option.yielded _ c.loop-option.yielded_by _ _ c.in-Some.option c.in-Some.is c.next.ensures.steps in
    rw length_push (adds_more (parts c.args.value.now) (length c.loop-option.yielded) c.in-Some.option.now c.args.self c.loop-option.options c.with-options.result
    here.0 c.loop-option.invariant
    (c.with-options.ensures.close ∙ ap (λ part. c.loop-option.options.close || is_part (codes "close") part) here.1)
    (c.with-options.ensures.keep_alive ∙ ap (λ part. c.loop-option.options.keep_alive || is_part (codes "keep-alive") part) here.1)
    (c.with-options.ensures.upgrade ∙ ap (λ part. c.loop-option.options.upgrade || is_part (codes "upgrade") part) here.1))

pub returns : goal.returns
returns c =
    let end = YieldsList-end (YieldsList-from_slice_split _ (λ b. b == 44) c.args.value.now (cc) (cc) (cc) (λ x b q called. search rules)) c.loop-option.yielded _ c.loop-option.yielded_by _ _ c.in-None.is c.next.ensures.steps in
    lists_added c.args.value.now c.args.self c.loop-option.options (adds_all (parts c.args.value.now) (length c.loop-option.yielded) c.args.self c.loop-option.options (omega (arith, end.1)) c.loop-option.invariant)
