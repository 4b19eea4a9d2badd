use Rattle.std.proofs.Common.{◌≡◌, true, length, slice_get, ap, refl, sym, subst}
use Rattle.worker_core.specs.WorkerCore.{Worker, status_of}
use Rattle.server_worker.specs.Standing.{fits_at}
use Rattle.server_worker.proofs.BeginSteps.{new_fits, new_many, works_new}
use Rattle.server_worker.proofs.worker.Worker.new.Goals as goal

pub returns-in-Ok-new-clause-works : goal.returns-in-Ok-new-clause-works
returns-in-Ok-new-clause-works g c = works_new g.F.Factory.ServiceFactory g.F.Factory.Future.Future g.F.Factory.Service.Service g.F.Factory.Service.Future.Future g.F.Factory.Service.Future.LinkHolder.may_stand (g.F.ServerServiceFactory.may_serve c.args.factory) (g.F.ServerServiceFactory.may_leave c.args.factory) (g.F.ServerServiceFactory.may_ready c.args.factory) (g.F.ServerServiceFactory.may_init c.args.factory) (g.F.ServerServiceFactory.may_make c.args.factory) _ c.in-Ok-new.hand refl c.in-Ok.ensures.slots c.in-Ok.ensures.factories c.in-Ok-new.ensures.fresh

pub invariant_of-result-clause-fits : goal.invariant_of-result-clause-fits
invariant_of-result-clause-fits g c t =
    subst (λ (w : Worker). fits_at (status_of w t) (slice_get c.in-Ok.slots.items t) ≡ true) (sym c.new-in-Ok-new.ensures) (new_fits c.in-Ok.slots.items c.args.listeners c.in-Ok.ensures.making t)

pub returns-in-Ok-new-clause-fresh : goal.returns-in-Ok-new-clause-fresh
returns-in-Ok-new-clause-fresh g c = c.in-Ok-new.ensures.fresh

pub returns-in-Ok-new-clause-ends : goal.returns-in-Ok-new-clause-ends
returns-in-Ok-new-clause-ends g c = (c.in-Ok-new.ensures.parcels, c.in-Ok-new.ensures.notes)

pub returns-in-Ok-new-clause-factory : goal.returns-in-Ok-new-clause-factory
returns-in-Ok-new-clause-factory g c = refl

pub returns-in-Ok-new-clause-listeners : goal.returns-in-Ok-new-clause-listeners
returns-in-Ok-new-clause-listeners g c = c.in-Ok.ensures.as_many.0

pub returns-in-Ok-new-clause-core : goal.returns-in-Ok-new-clause-core
returns-in-Ok-new-clause-core g c = c.new-in-Ok-new.ensures

pub returns-in-Ok-new-clause-made : goal.returns-in-Ok-new-clause-made
returns-in-Ok-new-clause-made g c = refl

pub returns-in-Ok-new-clause-total : goal.returns-in-Ok-new-clause-total
returns-in-Ok-new-clause-total g c = refl

pub returns-in-Ok-new-clause-refused : goal.returns-in-Ok-new-clause-refused
returns-in-Ok-new-clause-refused g c = tt

pub returns-in_default-clause-works : goal.returns-in_default-clause-works
returns-in_default-clause-works g c = tt

pub returns-in_default-clause-fresh : goal.returns-in_default-clause-fresh
returns-in_default-clause-fresh g c = tt

pub returns-in_default-clause-ends : goal.returns-in_default-clause-ends
returns-in_default-clause-ends g c = tt

pub returns-in_default-clause-factory : goal.returns-in_default-clause-factory
returns-in_default-clause-factory g c = tt

pub returns-in_default-clause-listeners : goal.returns-in_default-clause-listeners
returns-in_default-clause-listeners g c = tt

pub returns-in_default-clause-core : goal.returns-in_default-clause-core
returns-in_default-clause-core g c = tt

pub returns-in_default-clause-made : goal.returns-in_default-clause-made
returns-in_default-clause-made g c = tt

pub returns-in_default-clause-total : goal.returns-in_default-clause-total
returns-in_default-clause-total g c = tt

pub returns-in_default-clause-held : goal.returns-in_default-clause-held
returns-in_default-clause-held g c = tt

pub returns-in-Err-clause-works : goal.returns-in-Err-clause-works
returns-in-Err-clause-works g c = tt

pub returns-in-Err-clause-fresh : goal.returns-in-Err-clause-fresh
returns-in-Err-clause-fresh g c = tt

pub returns-in-Err-clause-ends : goal.returns-in-Err-clause-ends
returns-in-Err-clause-ends g c = tt

pub returns-in-Err-clause-factory : goal.returns-in-Err-clause-factory
returns-in-Err-clause-factory g c = tt

pub returns-in-Err-clause-listeners : goal.returns-in-Err-clause-listeners
returns-in-Err-clause-listeners g c = tt

pub returns-in-Err-clause-core : goal.returns-in-Err-clause-core
returns-in-Err-clause-core g c = tt

pub returns-in-Err-clause-made : goal.returns-in-Err-clause-made
returns-in-Err-clause-made g c = tt

pub returns-in-Err-clause-total : goal.returns-in-Err-clause-total
returns-in-Err-clause-total g c = tt

pub returns-in-Err-clause-held : goal.returns-in-Err-clause-held
returns-in-Err-clause-held g c = tt

pub returns-in_default-clause-refused : goal.returns-in_default-clause-refused
returns-in_default-clause-refused g c = (refl, refl, refl)

pub returns-in-Err-clause-refused : goal.returns-in-Err-clause-refused
returns-in-Err-clause-refused g c = (ap (λ ends. ends.0) c.in-Err.ensures.back, ap (λ ends. ends.1) c.in-Err.ensures.back, refl)

pub new-requires-in-Ok-new-clause-some : goal.new-requires-in-Ok-new-clause-some
new-requires-in-Ok-new-clause-some g c = c.requires.some

pub new-requires-in-Ok-new-clause-fits : goal.new-requires-in-Ok-new-clause-fits
new-requires-in-Ok-new-clause-fits g c = c.requires.fits

pub invariant_of-result-clause-as_many : goal.invariant_of-result-clause-as_many
invariant_of-result-clause-as_many g c = new_many c.args.listeners (length c.in-Ok.slots.items) c.new-in-Ok-new.result c.in-Ok.ensures.as_many.0 c.new-in-Ok-new.ensures

pub invariant_of-result-clause-as_many_factories : goal.invariant_of-result-clause-as_many_factories
invariant_of-result-clause-as_many_factories g c = new_many c.args.listeners (length c.in-Ok.factories.items) c.new-in-Ok-new.result c.in-Ok.ensures.as_many.1 c.new-in-Ok-new.ensures

pub invariant_of-result-clause-goes_on : goal.invariant_of-result-clause-goes_on
invariant_of-result-clause-goes_on g c = (ap (λ w. w.draining) c.new-in-Ok-new.ensures, ap (λ w. w.left) c.new-in-Ok-new.ensures)
