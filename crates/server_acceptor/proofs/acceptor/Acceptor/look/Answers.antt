use Rattle.std.proofs.Common.{◌<◌, [], refl, sym, ◌∙◌, arith, length}
use Rattle.std.proofs.lemmas.List.{append-nil}
use Rattle.rtrb.specs.Ring.{received}
use Rattle.server_acceptor.proofs.Handed.{hands_looked}
use Rattle.server_acceptor.proofs.Taking.{told_still}
use Rattle.server_acceptor.proofs.acceptor.Acceptor.look.Goals as goal

pub returns-clause-hands : goal.returns-clause-hands
returns-clause-hands g c =
    let inside : c.args.w < length c.args.self.now.notes.items = omega (arith, c.requires.number, c.args.self.now.workers.1) in
    hands_looked g.L.Link.identity g.Do.Done.taken g.Do.Done.count g.Do.Done.served c.args.self.now _ c.args.w c.index_mut.result.now c.slots.new.self refl inside c.index_mut.ensures.value c.slots.ensures.looked.0
    (record { parcels = refl; waiting = refl; ready = refl; stopped = refl; forced = refl; stop = refl; serial = refl; places = refl; failed = refl; first = refl; limit = refl; retry_limit = refl; shutdown_timeout = refl; lacks_room = refl })
    c.args.done.now (g.met.Do.Done.small c.args.done.now) c.slots.ensures.looked.1 refl refl

pub returns-clause-others : goal.returns-clause-others
returns-clause-others g c v differ told =
    let inside : c.args.w < length c.args.self.now.notes.items = omega (arith, c.requires.number, c.args.self.now.workers.1) in
    let came = c.slots.ensures.looked.1 ∙ sym (append-nil (received c.index_mut.result.now)) in
    told_still _ c.args.self.now.notes.items c.args.w _ _ [] refl inside c.index_mut.ensures.value came c.args.self.now.core c.args.self.now.core v refl refl differ told
