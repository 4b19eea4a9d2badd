use Rattle.std.proofs.Common.{◌<◌, length, refl, sym, ◌∙◌, arith, inl}
use Rattle.std.proofs.Math.ListN.{length-set}
use Rattle.rtrb.specs.Ring.{IsPair}
use Rattle.server_acceptor.proofs.BesideSteps.{if_there, sent_there, still_pair, was_there}
use Rattle.server_acceptor.proofs.PlaceSteps.{keeps_sent}
use Rattle.server_acceptor.proofs.Sendings.{are_sent_kept}
use Rattle.server_acceptor.proofs.StopSteps.{stop_acts}
use Rattle.server_jobs.specs.Parcels.{is_force, is_stop}
use Rattle.server_acceptor.proofs.acceptor.Acceptor.look_to.Goals as goal

pub returns-clause-acts : goal.returns-clause-acts
returns-clause-acts g c ls d =
    let looked = c.slots_beside.ensures.producer in
    let k = keeps_sent c.args.self.now.parcels.items c.args.w c.index_mut.result.now c.slots_beside.new.producer c.index_mut.ensures.value looked.0 looked.1 in
    stop_acts g.Li.Listener.given g.Li.Listener.left g.Li.Listener.rest g.L.Link.identity g.Li.Listener.ended g.Li.Listener.faults g.Do.Done.taken g.Do.Done.count g.Do.Done.served ls c.args.self.now _ d (g.met.Do.Done.small d)
    (record { core = refl; events = refl; notes = refl; ready = refl; waiting = refl; serial = refl; places = refl; failed = refl; first = refl; limit = refl; retry_limit = refl; shutdown_timeout = refl; lacks_room = refl; stop = refl }) (inl k) k.rings

pub returns-clause-rest : goal.returns-clause-rest
returns-clause-rest g c =
    let looked = c.slots_beside.ensures.producer in
    let k = keeps_sent c.args.self.now.parcels.items c.args.w c.index_mut.result.now c.slots_beside.new.producer c.index_mut.ensures.value looked.0 looked.1 in
    record { paused = refl; stopping = refl; stop = refl; shutdown_timeout = refl; places = refl; serial = refl; ready = refl; stopped = refl; forced = refl; failed = refl; first = refl; events = refl; sent = k.sent_on; listeners = refl; workers = refl; limit = refl; retry_limit = refl; lacks_room = refl }

pub returns-clause-to_it : goal.returns-clause-to_it
returns-clause-to_it g c =
    let inside : c.args.w < length c.args.self.now.parcels.items = omega (arith, c.requires.number, c.args.self.now.workers.0) in
    c.slots_beside.ensures.fifo ∙ sym (sent_there c.args.self.now.parcels.items c.args.w c.slots_beside.new.producer inside)

pub returns-clause-pair : goal.returns-clause-pair
returns-clause-pair g c =
    let inside : c.args.w < length c.args.self.now.parcels.items = omega (arith, c.requires.number, c.args.self.now.workers.0) in
    let pair = was_there (λ p. IsPair p c.args.parcels.now) c.args.self.now.parcels.items c.args.w c.index_mut.result.now inside c.index_mut.ensures.value c.requires.to_it in
    if_there (λ p. IsPair p c.slots_beside.new.self) c.args.self.now.parcels.items c.args.w c.slots_beside.new.producer inside
    (still_pair c.index_mut.result.now c.slots_beside.new.producer c.args.parcels.now c.slots_beside.new.self pair c.slots_beside.ensures.producer.0 c.slots_beside.ensures.looked.0)

pub slots_beside-requires : goal.slots_beside-requires
slots_beside-requires g c =
    let inside : c.args.w < length c.args.self.now.parcels.items = omega (arith, c.requires.number, c.args.self.now.workers.0) in
    was_there (λ p. IsPair p c.args.parcels.now) c.args.self.now.parcels.items c.args.w c.index_mut.result.now inside c.index_mut.ensures.value c.requires.to_it

pub invariant_of-self-clause-stopped_sent : goal.invariant_of-self-clause-stopped_sent
invariant_of-self-clause-stopped_sent g c =
    let looked = c.slots_beside.ensures.producer in
    are_sent_kept c.args.self.now.parcels.items _ is_stop c.args.self.now.stopped.items
    (keeps_sent c.args.self.now.parcels.items c.args.w c.index_mut.result.now c.slots_beside.new.producer c.index_mut.ensures.value looked.0 looked.1) c.args.self.now.stopped_sent

pub invariant_of-self-clause-forced_sent : goal.invariant_of-self-clause-forced_sent
invariant_of-self-clause-forced_sent g c =
    let looked = c.slots_beside.ensures.producer in
    are_sent_kept c.args.self.now.parcels.items _ is_force c.args.self.now.forced.items
    (keeps_sent c.args.self.now.parcels.items c.args.w c.index_mut.result.now c.slots_beside.new.producer c.index_mut.ensures.value looked.0 looked.1) c.args.self.now.forced_sent

pub invariant_of-self-clause-workers : goal.invariant_of-self-clause-workers
invariant_of-self-clause-workers g c = let w = c.args.self.now.workers in (length-set c.args.self.now.parcels.items c.args.w c.slots_beside.new.producer ∙ w.0, w.1, w.2, w.3)
