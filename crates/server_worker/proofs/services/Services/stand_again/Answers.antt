use Rattle.std.proofs.Common.{◌≡◌, true, slice_get, set, sym, subst, arith}
use Rattle.worker_core.specs.WorkerCore.{Worker, status_of}
use Rattle.server_worker.specs.Standing.{fits_at}
use Rattle.server_worker.specs.declared.slot.Slot.TheVariants.{Made}
use Rattle.server_worker.proofs.Statuses.{fits_remade}
use Rattle.server_worker.proofs.services.Services.stand_again.Goals as goal

pub invariant_of-self-clause-fits : goal.invariant_of-self-clause-fits
invariant_of-self-clause-fits g c t =
    subst (λ (w : Worker). fits_at (status_of w t) (slice_get (set c.args.self.now.slots.items c.args.token (Made c.args.service)) t) ≡ true) (sym c.restarted.ensures.after)
    (fits_remade c.args.self.now.slots.items c.args.self.now.core c.args.token c.args.service c.args.self.now.fits c.requires.inside (omega (arith, c.requires.inside, c.args.self.now.as_many)) t)
