use Rattle.std.proofs.Common.{◌<◌, length, true, false, inl, inr, refl, sym, ◌∙◌, arith, rules, true≢false}
use Rattle.std.proofs.lemmas.List.{get_or_default}
use Rattle.std.proofs.Math.ListN.{length-set}
use Rattle.server_acceptor.proofs.Sendings.{are_sent_marked, forced_now, stop_of_force, stopped_now}
use Rattle.server_acceptor.proofs.StopSteps.{stop_proceeds}
use Rattle.server_jobs.specs.Parcels.{is_force, is_stop}
use Rattle.server_acceptor.proofs.acceptor.Acceptor.send_force.Goals as goal

pub returns-then-index-clause-proceeds : goal.returns-then-index-clause-proceeds
returns-then-index-clause-proceeds g c ls d = stop_proceeds g.Li.Listener.given g.Li.Listener.left g.Li.Listener.rest g.L.Link.identity g.Li.Listener.ended g.Li.Listener.faults g.Do.Done.taken g.Do.Done.count g.Do.Done.served ls c.args.self.now _ d (g.met.Do.Done.small d) (record { core = refl; events = refl; notes = refl; ready = refl; waiting = refl; serial = refl; places = refl; failed = refl; first = refl; limit = refl; retry_limit = refl; shutdown_timeout = refl; lacks_room = refl; stop = refl }) (inl (record { rings = refl; sent_on = refl })) refl

pub returns-then-not-push_stop-clause-proceeds : goal.returns-then-not-push_stop-clause-proceeds
returns-then-not-push_stop-clause-proceeds g c ls d =
    let k = c.push_stop.ensures.keeps (search rules) in
    stop_proceeds g.Li.Listener.given g.Li.Listener.left g.Li.Listener.rest g.L.Link.identity g.Li.Listener.ended g.Li.Listener.faults g.Do.Done.taken g.Do.Done.count g.Do.Done.served ls c.args.self.now c.push_stop.new.self d (g.met.Do.Done.small d) c.push_stop.ensures.only (inl k.0) k.0.rings

pub returns-clause-proceeds : goal.returns-clause-proceeds
returns-clause-proceeds g c ls d =
    let p = c.push_stop.ensures.puts (search rules) in
    let o = c.push_stop.ensures.only in
    stop_proceeds g.Li.Listener.given g.Li.Listener.left g.Li.Listener.rest g.L.Link.identity g.Li.Listener.ended g.Li.Listener.faults g.Do.Done.taken g.Do.Done.count g.Do.Done.served ls c.args.self.now _ d (g.met.Do.Done.small d) (record { core = o.core; events = o.events; notes = o.notes; ready = o.ready; waiting = o.waiting; serial = o.serial; places = o.places; failed = o.failed; first = o.first; limit = o.limit; retry_limit = o.retry_limit; shutdown_timeout = o.shutdown_timeout; lacks_room = o.lacks_room; stop = o.stop }) (inr (c.args.w, false, p)) p.rings

pub invariant_of-self-2-clause-forced_sent : goal.invariant_of-self-2-clause-forced_sent
invariant_of-self-2-clause-forced_sent g c = are_sent_marked c.push_stop.new.self.parcels.items is_force c.push_stop.new.self.forced.items c.args.w
    (forced_now c.args.self.now.parcels.items c.push_stop.new.self.parcels.items c.args.w (c.push_stop.ensures.puts (search rules))) c.push_stop.new.self.forced_sent

pub invariant_of-self-2-clause-stopped_sent : goal.invariant_of-self-2-clause-stopped_sent
invariant_of-self-2-clause-stopped_sent g c = are_sent_marked c.push_stop.new.self.parcels.items is_stop c.push_stop.new.self.stopped.items c.args.w
    (stopped_now c.args.self.now.parcels.items c.push_stop.new.self.parcels.items c.args.w false (c.push_stop.ensures.puts (search rules))) c.push_stop.new.self.stopped_sent

pub invariant_of-self-clause-stopped_sent : goal.invariant_of-self-clause-stopped_sent
invariant_of-self-clause-stopped_sent g c =
    let inside : c.args.w < length c.args.self.now.forced.items = omega (arith, c.requires.number, c.args.self.now.as_many_forced, c.args.self.now.workers.0) in
    are_sent_marked c.args.self.now.parcels.items is_stop c.args.self.now.stopped.items c.args.w
    (stop_of_force c.args.self.now.parcels.items c.args.w (c.args.self.now.forced_sent c.args.w (get_or_default c.args.self.now.forced.items c.args.w false c.index.result.now inside ∙ sym c.index.ensures ∙ c.if-index.true))) c.args.self.now.stopped_sent

pub invariant_of-self-2-clause-workers : goal.invariant_of-self-2-clause-workers
invariant_of-self-2-clause-workers g c = let w = c.push_stop.new.self.workers in (w.0, w.1, w.2, length-set c.push_stop.new.self.stopped.items c.args.w true ∙ w.3)

pub invariant_of-self-2-clause-as_many_forced : goal.invariant_of-self-2-clause-as_many_forced
invariant_of-self-2-clause-as_many_forced g c = length-set c.push_stop.new.self.forced.items c.args.w true ∙ c.push_stop.new.self.as_many_forced

pub invariant_of-self-clause-workers : goal.invariant_of-self-clause-workers
invariant_of-self-clause-workers g c = let w = c.args.self.now.workers in (w.0, w.1, w.2, length-set c.args.self.now.stopped.items c.args.w true ∙ w.3)

pub returns-then-index-clause-only : goal.returns-then-index-clause-only
returns-then-index-clause-only g c = record { core = refl; events = refl; notes = refl; ready = refl; waiting = refl; serial = refl; places = refl; failed = refl; first = refl; limit = refl; retry_limit = refl; shutdown_timeout = refl; lacks_room = refl; stop = refl }

pub returns-then-index-clause-lacks : goal.returns-then-index-clause-lacks
returns-then-index-clause-lacks g c = λ is. absurd (true≢false is)

pub returns-then-not-push_stop-clause-only : goal.returns-then-not-push_stop-clause-only
returns-then-not-push_stop-clause-only g c = c.push_stop.ensures.only

pub returns-then-not-push_stop-clause-got : goal.returns-then-not-push_stop-clause-got
returns-then-not-push_stop-clause-got g c = λ is. absurd (true≢false (sym is))

pub returns-clause-only : goal.returns-clause-only
returns-clause-only g c = let o = c.push_stop.ensures.only in record { core = o.core; events = o.events; notes = o.notes; ready = o.ready; waiting = o.waiting; serial = o.serial; places = o.places; failed = o.failed; first = o.first; limit = o.limit; retry_limit = o.retry_limit; shutdown_timeout = o.shutdown_timeout; lacks_room = o.lacks_room; stop = o.stop }

pub returns-clause-lacks : goal.returns-clause-lacks
returns-clause-lacks g c = λ is. absurd (true≢false is)
