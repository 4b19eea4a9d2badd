use Rattle.std.proofs.Common.{◌≡◌, ℕ, [], length, sum_by, refl, sym, ap, ◌∙◌, arith}
use Rattle.std.proofs.lemmas.List.{append-nil}
use Rattle.std.proofs.lemmas.List.Elements.{All-nil}
use Rattle.rtrb.specs.Ring.{known_items, received}
use Rattle.server_jobs.specs.Cards.{of_parcel}
use Rattle.server_worker.specs.Taken.{Takes}
use Rattle.server_worker.specs.declared.connections.Connections.{Connections}
use Rattle.server_worker.proofs.Accounting.{accounts_trans}
use Rattle.server_worker.proofs.TakeSteps.{or_none, takes_grown, takes_trans}
use Rattle.server_worker.proofs.connections.Connections.take.Goals as goal

-- more is known of the ring, and nothing came
takes_looked : {L Fut : Type 0} (listeners : ℕ) (a b : Connections L Fut) → received b.parcels ≡ received a.parcels → b.queue.items ≡ a.queue.items → b.strays.items ≡ a.strays.items → b.live.items ≡ a.live.items → b.owed.items ≡ a.owed.items
    → b.notes ≡ a.notes → b.stopped ≡ a.stopped → b.forced ≡ a.forced → b.told ≡ a.told → Takes listeners a b
takes_looked listeners a b came queue strays live owed notes stopped forced told = record {
  more = [];
  came = came ∙ sym (append-nil (received a.parcels));
  stopped = stopped ∙ or_none a.stopped;
  forced = forced ∙ or_none a.forced;
  queued = [];
  queue = queue ∙ sym (append-nil a.queue.items);
  each_queued = All-nil _;
  strayed = [];
  strays = strays ∙ sym (append-nil a.strays.items);
  each_strayed = All-nil _;
  live = live;
  owed = owed;
  notes = notes;
  told_ready = told;
}

pub loop-init : goal.loop-init
loop-init g c = (
  record {
    parcels = c.slots-end.ensures.looked.0;
    notes = ((refl, refl, refl, refl), refl);
    spares = λ free. free;
    once = λ h. let same = ap (λ xs. sum_by (of_parcel g.L.Link.identity h) xs) c.slots-end.ensures.looked.1 in omega (arith, same);
  },
  takes_looked c.args.listeners c.args.self.now _ c.slots-end.ensures.looked.1 refl refl refl refl refl refl refl refl,
  omega (arith, c.slots-end.ensures.value),
)

pub returns-then-not-make_room-clause-takes : goal.returns-then-not-make_room-clause-takes
returns-then-not-make_room-clause-takes g c = takes_trans c.loop.invariant.1 (takes_grown c.make_room.ensures.grows)

pub loop-preserved : goal.loop-preserved
loop-preserved g c = (
  accounts_trans (accounts_trans c.loop.invariant.0 c.make_room.ensures.same) c.take_one.ensures.accounts,
  takes_trans (takes_trans c.loop.invariant.1 (takes_grown c.make_room.ensures.grows)) c.take_one.ensures.takes,
  omega (arith, c.loop.invariant.2, c.take_one.ensures.fewer, ap (λ p. length (known_items p)) c.make_room.ensures.grows.parcels),
)

pub returns-then-not-make_room-clause-accounts : goal.returns-then-not-make_room-clause-accounts
returns-then-not-make_room-clause-accounts g c = accounts_trans c.loop.invariant.0 c.make_room.ensures.same

pub returns-clause-accounts : goal.returns-clause-accounts
returns-clause-accounts g c = c.loop.invariant.0

pub returns-clause-takes : goal.returns-clause-takes
returns-clause-takes g c = c.loop.invariant.1
