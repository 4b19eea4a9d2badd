use Rattle.std.proofs.Common.{◌≤◌, length, subst, sym}
use Rattle.rtrb.specs.Ring.{known_items}
use Rattle.server_jobs.specs.Returning.{HandsOn, entries_of, entry_of_parcel, entry_of_waiting}
use Rattle.server_jobs.proofs.ReturnSteps.{all_four, room_fourth, room_third}
use Rattle.server_jobs.proofs.line.Joined.hand_on.Goals as goal

pub hand_on_rest-requires : goal.hand_on_rest-requires
hand_on_rest-requires g c =
    subst (λ xs. length (entries_of (entry_of_waiting c.args.worker) xs) ≤ g.Do.Done.spare c.hand_on_owed.new.done) (sym c.into_iter-rest.ensures.rest)
    (room_third g.Do.Done.taken g.Do.Done.count g.Do.Done.served g.Do.Done.spare _ _ _ c.args.done.now c.args.done.now _ _ (entries_of (entry_of_waiting c.args.worker) c.args.self.handed.rest.items) (entries_of entry_of_parcel (known_items c.args.self.handed.parcels)) c.requires c.hand_on_notes.ensures c.hand_on_owed.ensures)

pub hand_on_parcels-requires : goal.hand_on_parcels-requires
hand_on_parcels-requires g c =
    room_fourth g.Do.Done.taken g.Do.Done.count g.Do.Done.served g.Do.Done.spare _ _ _ _ c.args.done.now _ _ (entries_of (entry_of_waiting c.args.worker) c.args.self.handed.rest.items) (entries_of entry_of_parcel (known_items c.args.self.handed.parcels)) c.requires c.hand_on_notes.ensures c.hand_on_owed.ensures
    (subst (λ xs. HandsOn g.Do.Done.taken g.Do.Done.count g.Do.Done.served g.Do.Done.spare c.hand_on_owed.new.done c.hand_on_rest.new.done (entries_of (entry_of_waiting c.args.worker) xs)) c.into_iter-rest.ensures.rest c.hand_on_rest.ensures)

pub returns-clause-hands : goal.returns-clause-hands
returns-clause-hands g c =
    all_four g.Do.Done.taken g.Do.Done.count g.Do.Done.served g.Do.Done.spare _ _ _ _ _ _ _ (entries_of (entry_of_waiting c.args.worker) c.args.self.handed.rest.items) (entries_of entry_of_parcel (known_items c.args.self.handed.parcels)) c.requires c.hand_on_notes.ensures c.hand_on_owed.ensures
    (subst (λ xs. HandsOn g.Do.Done.taken g.Do.Done.count g.Do.Done.served g.Do.Done.spare c.hand_on_owed.new.done c.hand_on_rest.new.done (entries_of (entry_of_waiting c.args.worker) xs)) c.into_iter-rest.ensures.rest c.hand_on_rest.ensures) c.hand_on_parcels.ensures
