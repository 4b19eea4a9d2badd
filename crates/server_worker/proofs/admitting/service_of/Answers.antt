use Rattle.server_worker.specs.Standing.{IsSlot}
use Rattle.server_worker.proofs.AdmitSteps.{not_standing, of_slot, stands_at}
use Rattle.server_worker.proofs.admitting.service_of.Goals as goal

pub unreachable-requires : goal.unreachable-requires
unreachable-requires g c = absurd (not_standing c.index.result.now c.in_default.not-Made
    (stands_at c.args.services.now.slots.items c.args.services.now.core c.args.token c.index.result.now c.requires.inside c.args.services.now.as_many c.index.ensures c.args.services.now.fits c.requires.available))

pub returns : goal.returns
returns g c =
    let slot = of_slot (λ t. IsSlot g.F.Factory.Future.Future g.F.Factory.Service.Service g.F.Factory.Service.Future.LinkHolder.may_stand (g.F.ServerServiceFactory.may_serve c.args.factory.now t) (g.F.ServerServiceFactory.may_leave c.args.factory.now t)
    (g.F.ServerServiceFactory.may_ready c.args.factory.now t) (g.F.ServerServiceFactory.may_init c.args.factory.now t) (g.F.ServerServiceFactory.may_make c.args.factory.now t))
    _ _ c.index.result.now c.requires.inside c.index.ensures c.requires.slots in
    (rw c.in-Made.is at slot).1
