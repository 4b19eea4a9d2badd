use Rattle.std.proofs.Common.{◌<◌, length, refl, ◌∙◌, ap, arith}
use Rattle.std.proofs.Math.ListN.{length-set}
use Rattle.rtrb.specs.Ring.{IsPair}
use Rattle.server_acceptor.proofs.BesideSteps.{if_there, received_same, received_set, still_pair, was_there}
use Rattle.server_acceptor.proofs.Handed.{looked_acts}
use Rattle.server_acceptor.proofs.acceptor.Acceptor.look_free.Goals as goal

pub returns-clause-acts : goal.returns-clause-acts
returns-clause-acts g c ls d =
    let inside : c.args.w < length c.args.self.now.notes.items = omega (arith, c.requires.number, c.args.self.now.workers.1) in
    looked_acts g.Li.Listener.given g.Li.Listener.left g.Li.Listener.rest g.L.Link.identity g.Li.Listener.ended g.Li.Listener.faults g.Do.Done.taken g.Do.Done.count g.Do.Done.served ls c.args.self.now _ c.args.w c.index_mut.result.now c.slots_beside.new.consumer refl inside c.index_mut.ensures.value c.slots_beside.ensures.consumer.0
    (record { parcels = refl; waiting = refl; ready = refl; stopped = refl; forced = refl; stop = refl; serial = refl; places = refl; failed = refl; first = refl; limit = refl; retry_limit = refl; shutdown_timeout = refl; lacks_room = refl })
    d (g.met.Do.Done.small d) c.slots_beside.ensures.consumer.1 refl refl

pub returns-clause-free : goal.returns-clause-free
returns-clause-free g c =
    let inside : c.args.w < length c.args.self.now.notes.items = omega (arith, c.requires.number, c.args.self.now.workers.1) in
    let all = c.slots_beside.ensures.all_free in
    let value = c.slots_beside.ensures.value in
    let there = ap length (received_set c.args.self.now.notes.items c.args.w c.slots_beside.new.consumer inside) in
    omega (arith, all, value, there)

pub returns-clause-received : goal.returns-clause-received
returns-clause-received g c = received_same c.args.self.now.notes.items c.args.w c.index_mut.result.now c.slots_beside.new.consumer c.index_mut.ensures.value c.slots_beside.ensures.consumer.1

pub returns-clause-pair : goal.returns-clause-pair
returns-clause-pair g c =
    let inside : c.args.w < length c.args.self.now.notes.items = omega (arith, c.requires.number, c.args.self.now.workers.1) in
    let pair = was_there (λ r. IsPair c.args.notes.now r) c.args.self.now.notes.items c.args.w c.index_mut.result.now inside c.index_mut.ensures.value c.requires.from_it in
    if_there (λ r. IsPair c.slots_beside.new.self r) c.args.self.now.notes.items c.args.w c.slots_beside.new.consumer inside
    (still_pair c.args.notes.now c.slots_beside.new.self c.index_mut.result.now c.slots_beside.new.consumer pair c.slots_beside.ensures.looked.0 c.slots_beside.ensures.consumer.0)

pub slots_beside-requires : goal.slots_beside-requires
slots_beside-requires g c =
    let inside : c.args.w < length c.args.self.now.notes.items = omega (arith, c.requires.number, c.args.self.now.workers.1) in
    was_there (λ r. IsPair c.args.notes.now r) c.args.self.now.notes.items c.args.w c.index_mut.result.now inside c.index_mut.ensures.value c.requires.from_it

pub invariant_of-self-clause-workers : goal.invariant_of-self-clause-workers
invariant_of-self-clause-workers g c = let w = c.args.self.now.workers in (w.0, length-set c.args.self.now.notes.items c.args.w c.slots_beside.new.consumer ∙ w.1, w.2, w.3)
