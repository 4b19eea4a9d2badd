use Rattle.std.proofs.Common.{◌<◌, length, refl, sym, subst, arith, ◌∙◌, true≢false}
use Rattle.server_worker.specs.Standing.{AreFactories}
use Rattle.server_worker.proofs.AskSteps.{checked_more, checked_none, each_but, made_but}
use Rattle.server_worker.proofs.readiness.check_readiness.Goals as goal

pub loop-token-init : goal.loop-token-init
loop-token-init g c = (checked_none _ _ _, c.requires.slots, c.requires.made, refl, refl, λ fact holds. holds, λ still t. refl)

pub returns-in-Refused-clause-fault : goal.returns-in-Refused-clause-fault
returns-in-Refused-clause-fault g c =
    let why = c.check_one.ensures.refused c.in-Refused.readiness c.in-Refused.error c.in-Refused.is in
    let so_far = c.loop-token.invariant in
    let inside : c.loop-token.token < length c.check_one.new.services.slots.items = omega (arith, c.check_one.ensures.as_many, so_far.0.as_many, c.loop-token-test.true, c.len-token-end.ensures) in
    (inside, why.0, why.1)

pub loop-token-preserved : goal.loop-token-preserved
loop-token-preserved g c =
    let so_far = c.loop-token.invariant in
    let it = c.check_one.ensures in
    let made = made_but _ _ c.loop-token.token it.as_many it.others so_far.2 it.is_made in
    elim c.match-check_one.branch [
      | goal.in-Stayed w ↦ (checked_more _ _ _ _ _ _ _ _ so_far.0 (w.in-Stayed.ensures.checks tt), each_but _ _ _ c.loop-token.token it.others so_far.1 (w.in-Stayed.ensures.slot tt), made, it.made ∙ so_far.3, it.factories ∙ so_far.4, λ fact holds. it.kept fact (so_far.5 fact holds), λ still t. w.in-Stayed.ensures.stayed refl t ∙ so_far.6 (sym w.moved-is ∙ still) t)
      | goal.in-Moved w ↦ (checked_more _ _ _ _ _ _ _ _ so_far.0 (w.in-Moved.ensures.checks tt), each_but _ _ _ c.loop-token.token it.others so_far.1 (w.in-Moved.ensures.slot tt), made, it.made ∙ so_far.3, it.factories ∙ so_far.4, λ fact holds. it.kept fact (so_far.5 fact holds), λ still. absurd (true≢false (sym w.moved-is ∙ still)))
    ]

pub check_one-requires-clause-inside : goal.check_one-requires-clause-inside
check_one-requires-clause-inside g c =
    let so_far = c.loop-token.invariant in
    let inside : c.loop-token.token < length c.loop-token.services.slots.items = omega (arith, so_far.0.as_many, c.loop-token-test.true, c.len-token-end.ensures) in
    inside

pub check_one-requires-clause-is_made : goal.check_one-requires-clause-is_made
check_one-requires-clause-is_made g c =
    let so_far = c.loop-token.invariant in
    let inside : c.loop-token.token < length c.loop-token.services.slots.items = omega (arith, so_far.0.as_many, c.loop-token-test.true, c.len-token-end.ensures) in
    so_far.2 c.loop-token.token inside

pub check_one-requires-clause-slot : goal.check_one-requires-clause-slot
check_one-requires-clause-slot g c = c.loop-token.invariant.1 c.loop-token.token

pub check_one-requires-clause-factories : goal.check_one-requires-clause-factories
check_one-requires-clause-factories g c = subst (λ v. AreFactories g.F.Factory.ServiceFactory g.F.Factory.Service.Future.LinkHolder.may_stand (g.F.ServerServiceFactory.may_serve c.args.factory.now) (g.F.ServerServiceFactory.may_leave c.args.factory.now) (g.F.ServerServiceFactory.may_ready c.args.factory.now) (g.F.ServerServiceFactory.may_init c.args.factory.now) (g.F.ServerServiceFactory.may_make c.args.factory.now) v.items) (sym c.loop-token.invariant.4) c.requires.factories

pub returns-in-Refused-clause-all_made : goal.returns-in-Refused-clause-all_made
returns-in-Refused-clause-all_made g c = made_but _ _ c.loop-token.token c.check_one.ensures.as_many c.check_one.ensures.others c.loop-token.invariant.2 c.check_one.ensures.is_made

pub returns-in-Refused-clause-as_many : goal.returns-in-Refused-clause-as_many
returns-in-Refused-clause-as_many g c = c.check_one.ensures.as_many ∙ c.loop-token.invariant.0.as_many

pub returns-in-Refused-clause-made : goal.returns-in-Refused-clause-made
returns-in-Refused-clause-made g c = c.check_one.ensures.made ∙ c.loop-token.invariant.3

pub returns-in-Refused-clause-factories : goal.returns-in-Refused-clause-factories
returns-in-Refused-clause-factories g c = c.check_one.ensures.factories ∙ c.loop-token.invariant.4

pub returns-in-Refused-clause-kept : goal.returns-in-Refused-clause-kept
returns-in-Refused-clause-kept g c fact holds = c.check_one.ensures.kept fact (c.loop-token.invariant.5 fact holds)
