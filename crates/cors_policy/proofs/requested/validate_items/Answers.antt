use Rattle.std.proofs.Common.{◌==◌, rules, sym, ◌∙◌, ap}
use Rattle.std.proofs.lemmas.List.{length_push}
use Rattle.std.proofs.lemmas.Iterator.Splits.{YieldsList-from_slice_split}
use Rattle.std.proofs.lemmas.Iterator.Consumers.{YieldsList-turn, YieldsList-end}
use Rattle.cors_policy.proofs.ItemSteps.{bad_item, good_item, all_items, judged_end}
use Rattle.cors_policy.proofs.requested.validate_items.Goals as goal

pub returns-in_default : goal.returns-in_default
returns-in_default c =
    let here = YieldsList-turn (YieldsList-from_slice_split _ (λ b. b == 44) c.args.value.now (cc) (cc) (cc) (λ x b q called. search rules)) c.loop-item.yielded _ c.loop-item.yielded_by _ _ c.in-Some.item c.in-Some.is c.next.ensures.steps in
    sym (bad_item _ _ _ _ _ c.loop-item.invariant _ here (search rules))

pub loop-item-preserved : goal.loop-item-preserved
loop-item-preserved c =
    let here = YieldsList-turn (YieldsList-from_slice_split _ (λ b. b == 44) c.args.value.now (cc) (cc) (cc) (λ x b q called. search rules)) c.loop-item.yielded _ c.loop-item.yielded_by _ _ c.in-Some.item c.in-Some.is c.next.ensures.steps in
    rw length_push (good_item _ _ _ _ _ c.loop-item.invariant _ here (search rules) _ (search rules))

pub returns-then-are_members : goal.returns-then-are_members
returns-then-are_members c =
    let end = YieldsList-end (YieldsList-from_slice_split _ (λ b. b == 44) c.args.value.now (cc) (cc) (cc) (λ x b q called. search rules)) c.loop-item.yielded _ c.loop-item.yielded_by _ _ c.in-None.is c.next.ensures.steps in
    sym (all_items _ _ _ _ _ c.loop-item.invariant end.1 ∙ ap judged_end c.if-are_members.true)

pub returns-else-are_members : goal.returns-else-are_members
returns-else-are_members c =
    let end = YieldsList-end (YieldsList-from_slice_split _ (λ b. b == 44) c.args.value.now (cc) (cc) (cc) (λ x b q called. search rules)) c.loop-item.yielded _ c.loop-item.yielded_by _ _ c.in-None.is c.next.ensures.steps in
    sym (all_items _ _ _ _ _ c.loop-item.invariant end.1 ∙ ap judged_end c.if-are_members.false)
