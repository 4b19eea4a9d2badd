use Rattle.std.proofs.Common.{vec_len, ◌≡◌, true, length, set, slice_get, refl, ap, sym, ◌∙◌, subst}
use Rattle.std.proofs.Math.ListN.{length-set}
use Rattle.worker_core.specs.WorkerCore.{Worker, status_of}
use Rattle.server_worker.specs.Standing.{fits_at}
use Rattle.server_worker.specs.declared.slot.Slot.TheVariants.{Failed}
use Rattle.server_worker.proofs.Statuses.{fits_failed, listens, may_ask}
use Rattle.server_worker.proofs.services.Services.fail.Goals as goal

pub ready-requires : goal.ready-requires
ready-requires g c = may_ask c.args.self.now.slots.items c.args.self.now.core c.args.token c.args.self.now.fits (listens c.args.token (length c.args.self.now.slots.items) (length c.args.self.now.core.services) c.requires.inside c.args.self.now.as_many) c.requires.stands c.args.self.now.goes_on.0 c.args.self.now.goes_on.1

pub index_mut-requires : goal.index_mut-requires
index_mut-requires g c = listens c.args.token (length c.args.self.now.slots.items) (vec_len c.args.self.now.slots) c.requires.inside (sym c.args.self.now.slots.ok.0)

pub invariant_of-self : goal.invariant_of-self
invariant_of-self g c = record {
  as_many = length-set c.args.self.now.slots.items c.args.token (Failed c.args.error) ∙ c.args.self.now.as_many ∙ sym c.ready.ensures.listeners;
  as_many_factories = c.args.self.now.as_many_factories ∙ sym c.ready.ensures.listeners;
  fits = λ t. subst (λ (w : Worker). fits_at (status_of w t) (slice_get (set c.args.self.now.slots.items c.args.token (Failed c.args.error)) t) ≡ true) (sym c.ready.ensures.after)
      (fits_failed c.args.self.now.slots.items c.args.self.now.core c.args.token c.args.error c.args.self.now.fits c.requires.inside (listens c.args.token (length c.args.self.now.slots.items) (length c.args.self.now.core.services) c.requires.inside c.args.self.now.as_many) t);
  goes_on = (ap (λ (w : Worker). w.draining) c.ready.ensures.after ∙ c.args.self.now.goes_on.0, ap (λ (w : Worker). w.left) c.ready.ensures.after ∙ c.args.self.now.goes_on.1);
}

pub returns-clause-allowed : goal.returns-clause-allowed
returns-clause-allowed g c = may_ask c.args.self.now.slots.items c.args.self.now.core c.args.token c.args.self.now.fits (listens c.args.token (length c.args.self.now.slots.items) (length c.args.self.now.core.services) c.requires.inside c.args.self.now.as_many) c.requires.stands c.args.self.now.goes_on.0 c.args.self.now.goes_on.1

pub returns-clause-core : goal.returns-clause-core
returns-clause-core g c = c.ready.ensures.after

pub returns-clause-slots : goal.returns-clause-slots
returns-clause-slots g c = refl

pub returns-clause-made : goal.returns-clause-made
returns-clause-made g c = refl

pub returns-clause-factories : goal.returns-clause-factories
returns-clause-factories g c = refl
