use Rattle.std.proofs.Common.{◌≡◌, ◌<◌, length, slice_get, Some, arith, refl, sym, ap, ◌∙◌, subst}
use Rattle.server_run.specs.Creating.{Creates}
use Rattle.server_worker.specs.Checking.{IsDown, IsRemaking}
use Rattle.server_worker.specs.declared.slot.Slot.TheVariants.{Failed, Remaking}
use Rattle.server_worker.proofs.RemakeSteps.{as_many_twice, factory_there, fits_begun, here_twice, not_down, others_twice, read_down, read_there, slot_begun, waits_begun}
use Rattle.server_worker.proofs.readiness.begin_again.Goals as goal

pub unreachable-requires : goal.unreachable-requires
unreachable-requires g c = absurd (not_down c.replace.result c.in_default.not-Failed (subst (λ s. IsDown (Some s)) (sym c.replace.ensures.value) (read_down c.args.services.now.slots.items c.args.token c.index_mut.result.now c.requires.inside c.index_mut.ensures.value c.requires.down)))

pub new_service-requires : goal.new_service-requires
new_service-requires g c =
    let inside : c.args.token < length c.args.services.now.factories.items = omega (arith, c.requires.inside, c.args.services.now.as_many, c.args.services.now.as_many_factories) in
    let creates = factory_there (Creates g.F.Factory.ServiceFactory g.F.Factory.Service.Future.LinkHolder.may_stand (g.F.ServerServiceFactory.may_serve c.args.factory.now c.args.token) (g.F.ServerServiceFactory.may_leave c.args.factory.now c.args.token) (g.F.ServerServiceFactory.may_ready c.args.factory.now c.args.token) (g.F.ServerServiceFactory.may_init c.args.factory.now c.args.token) (g.F.ServerServiceFactory.may_make c.args.factory.now c.args.token)) c.args.services.now.factories.items c.args.token c.index.result.now inside c.index.ensures (c.requires.factories c.args.token) in
    creates.callable

pub invariant_of-services : goal.invariant_of-services
invariant_of-services g c =
    let there : slice_get c.args.services.now.slots.items c.args.token ≡ Some (Failed c.in-Failed.error) = read_there c.args.services.now.slots.items c.args.token c.index_mut.result.now c.requires.inside c.index_mut.ensures.value ∙ ap (λ s. Some s) (sym c.replace.ensures.value ∙ c.in-Failed.is) in
    record {
      as_many = as_many_twice c.args.services.now.slots.items c.args.token c.replace.new.dest (Remaking c.new-making.result c.in-Failed.error) ∙ c.args.services.now.as_many;
      as_many_factories = c.args.services.now.as_many_factories;
      fits = fits_begun c.args.services.now.slots.items c.args.services.now.core c.args.token c.in-Failed.error c.requires.inside there c.args.services.now.fits c.requires.next c.replace.new.dest c.replace.ensures.after c.new-making.result;
      goes_on = c.args.services.now.goes_on;
    }

pub returns-clause-remaking : goal.returns-clause-remaking
returns-clause-remaking g c = subst (λ o. IsRemaking o) (sym (here_twice c.args.services.now.slots.items c.args.token c.replace.new.dest (Remaking c.new-making.result c.in-Failed.error) c.requires.inside)) tt

pub returns-clause-slot : goal.returns-clause-slot
returns-clause-slot g c =
    let there : slice_get c.args.services.now.slots.items c.args.token ≡ Some (Failed c.in-Failed.error) = read_there c.args.services.now.slots.items c.args.token c.index_mut.result.now c.requires.inside c.index_mut.ensures.value ∙ ap (λ s. Some s) (sym c.replace.ensures.value ∙ c.in-Failed.is) in
    let inside : c.args.token < length c.args.services.now.factories.items = omega (arith, c.requires.inside, c.args.services.now.as_many, c.args.services.now.as_many_factories) in
    let creates = factory_there (Creates g.F.Factory.ServiceFactory g.F.Factory.Service.Future.LinkHolder.may_stand (g.F.ServerServiceFactory.may_serve c.args.factory.now c.args.token) (g.F.ServerServiceFactory.may_leave c.args.factory.now c.args.token) (g.F.ServerServiceFactory.may_ready c.args.factory.now c.args.token) (g.F.ServerServiceFactory.may_init c.args.factory.now c.args.token) (g.F.ServerServiceFactory.may_make c.args.factory.now c.args.token)) c.args.services.now.factories.items c.args.token c.index.result.now inside c.index.ensures (c.requires.factories c.args.token) in
    slot_begun g.F.Factory.ServiceFactory g.F.Factory.Future.Future g.F.Factory.Service.Service g.F.Factory.Service.Future.LinkHolder.may_stand (g.F.ServerServiceFactory.may_serve c.args.factory.now c.args.token) (g.F.ServerServiceFactory.may_leave c.args.factory.now c.args.token) (g.F.ServerServiceFactory.may_ready c.args.factory.now c.args.token) (g.F.ServerServiceFactory.may_init c.args.factory.now c.args.token) (g.F.ServerServiceFactory.may_make c.args.factory.now c.args.token) c.index.result.now creates c.args.services.now.slots.items c.args.token c.in-Failed.error c.requires.inside there c.requires.slot c.replace.new.dest c.new_service.result c.new-making.result c.new-making.ensures.future c.new_service.ensures.pollable c.new_service.ensures.made

pub returns-clause-others : goal.returns-clause-others
returns-clause-others g c t other = others_twice c.args.services.now.slots.items c.args.token c.replace.new.dest (Remaking c.new-making.result c.in-Failed.error) t other

pub returns-clause-as_many : goal.returns-clause-as_many
returns-clause-as_many g c = as_many_twice c.args.services.now.slots.items c.args.token c.replace.new.dest (Remaking c.new-making.result c.in-Failed.error)

pub returns-clause-waits : goal.returns-clause-waits
returns-clause-waits g c =
    let there : slice_get c.args.services.now.slots.items c.args.token ≡ Some (Failed c.in-Failed.error) = read_there c.args.services.now.slots.items c.args.token c.index_mut.result.now c.requires.inside c.index_mut.ensures.value ∙ ap (λ s. Some s) (sym c.replace.ensures.value ∙ c.in-Failed.is) in
    waits_begun c.args.services.now.slots.items c.args.services.now.core c.args.token c.in-Failed.error c.requires.inside there c.replace.new.dest c.new-making.result c.new-making.ensures.none

pub returns-clause-core : goal.returns-clause-core
returns-clause-core g c = refl

pub returns-clause-made : goal.returns-clause-made
returns-clause-made g c = refl

pub returns-clause-factories : goal.returns-clause-factories
returns-clause-factories g c = refl
