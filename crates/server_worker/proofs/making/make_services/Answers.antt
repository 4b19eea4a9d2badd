use Rattle.std.proofs.Common.{◌<◌, length, ◌∙◌, arith}
use Rattle.std.proofs.Math.ListN.{length-set}
use Rattle.server_worker.specs.Standing.{IsSlot}
use Rattle.server_worker.proofs.AdmitSteps.{of_slot}
use Rattle.server_worker.proofs.MakeSteps.{erred_set, fits_set, makes_none, makes_one, unmade_there}
use Rattle.server_worker.proofs.making.make_services.Goals as goal

pub loop-token-preserved : goal.loop-token-preserved
loop-token-preserved g c =
    let so_far = c.loop-token.invariant in
    let inside : c.loop-token.token < length c.loop-token.slots.items = omega (arith, so_far.1.as_many, c.loop-token-test.true, c.len-token-end.ensures) in (
      λ fact holds. c.make_one.ensures.kept fact (so_far.0 fact holds),
      makes_one _ _ _ c.loop-token.token c.index_mut.result.now c.make_one.new.slot so_far.1 inside c.index_mut.ensures.value c.in_default.ensures.slot c.in_default.ensures.waits c.make_one.ensures.fits c.make_one.ensures.erred,
    )

pub loop-token-init : goal.loop-token-init
loop-token-init g c = (λ fact holds. holds, makes_none _ c.args.slots.now.items c.requires.slots)

pub make_one-requires : goal.make_one-requires
make_one-requires g c =
    let inside : c.loop-token.token < length c.loop-token.slots.items = omega (arith, c.loop-token.invariant.1.as_many, c.loop-token-test.true, c.len-token-end.ensures) in
    record {
      slot = of_slot (λ t. IsSlot g.F.Factory.Future.Future g.F.Factory.Service.Service g.F.Factory.Service.Future.LinkHolder.may_stand (g.F.ServerServiceFactory.may_serve c.args.factory.now t) (g.F.ServerServiceFactory.may_leave c.args.factory.now t)
          (g.F.ServerServiceFactory.may_ready c.args.factory.now t) (g.F.ServerServiceFactory.may_init c.args.factory.now t) (g.F.ServerServiceFactory.may_make c.args.factory.now t))
          c.loop-token.slots.items c.loop-token.token c.index_mut.result.now inside c.index_mut.ensures.value c.loop-token.invariant.1.slots;
    }

pub returns-in-Some-clause-as_many : goal.returns-in-Some-clause-as_many
returns-in-Some-clause-as_many g c = length-set c.loop-token.slots.items c.loop-token.token c.make_one.new.slot ∙ c.loop-token.invariant.1.as_many

pub returns-in-Some-clause-error : goal.returns-in-Some-clause-error
returns-in-Some-clause-error g c =
    let inside : c.loop-token.token < length c.loop-token.slots.items = omega (arith, c.loop-token.invariant.1.as_many, c.loop-token-test.true, c.len-token-end.ensures) in
    (let many = length-set c.loop-token.slots.items c.loop-token.token c.make_one.new.slot in omega (arith, inside, many), c.in-Some.ensures.error)

pub returns-in-Some-clause-unmade : goal.returns-in-Some-clause-unmade
returns-in-Some-clause-unmade g c =
    let inside : c.loop-token.token < length c.loop-token.slots.items = omega (arith, c.loop-token.invariant.1.as_many, c.loop-token-test.true, c.len-token-end.ensures) in
    unmade_there _ c.loop-token.slots.items c.loop-token.token c.index_mut.result.now (c.loop-token.invariant.1.rest c.loop-token.token (omega arith)) inside c.loop-token.invariant.1.as_many c.index_mut.ensures.value c.in-Some.ensures.unmade

pub returns-in-Some-clause-erred : goal.returns-in-Some-clause-erred
returns-in-Some-clause-erred g c =
    let inside : c.loop-token.token < length c.loop-token.slots.items = omega (arith, c.loop-token.invariant.1.as_many, c.loop-token-test.true, c.len-token-end.ensures) in
    erred_set _ c.loop-token.slots.items c.loop-token.token c.index_mut.result.now c.make_one.new.slot c.loop-token.invariant.1.rest c.loop-token.invariant.1.erred inside c.index_mut.ensures.value c.make_one.ensures.erred

pub returns-in-Some-clause-fits : goal.returns-in-Some-clause-fits
returns-in-Some-clause-fits g c =
    let inside : c.loop-token.token < length c.loop-token.slots.items = omega (arith, c.loop-token.invariant.1.as_many, c.loop-token-test.true, c.len-token-end.ensures) in
    fits_set _ c.loop-token.slots.items c.loop-token.token c.index_mut.result.now c.make_one.new.slot c.loop-token.invariant.1.fits inside c.index_mut.ensures.value c.make_one.ensures.fits

pub returns-in-Some-clause-kept : goal.returns-in-Some-clause-kept
returns-in-Some-clause-kept g c fact holds = c.make_one.ensures.kept fact (c.loop-token.invariant.0 fact holds)

pub returns-clause-slots : goal.returns-clause-slots
returns-clause-slots g c = c.loop-token.invariant.1.slots

pub returns-clause-as_many : goal.returns-clause-as_many
returns-clause-as_many g c = c.loop-token.invariant.1.as_many

pub returns-clause-erred : goal.returns-clause-erred
returns-clause-erred g c = c.loop-token.invariant.1.erred

pub returns-clause-fits : goal.returns-clause-fits
returns-clause-fits g c = c.loop-token.invariant.1.fits

pub returns-clause-waits : goal.returns-clause-waits
returns-clause-waits g c t inside = c.loop-token.invariant.1.waits t (omega (arith, inside, c.loop-token.invariant.1.as_many, c.loop-token-test.false, c.len-token-end.ensures)) inside

pub returns-clause-kept : goal.returns-clause-kept
returns-clause-kept g c = c.loop-token.invariant.0
