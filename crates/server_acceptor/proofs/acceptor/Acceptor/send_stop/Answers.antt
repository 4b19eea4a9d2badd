use Rattle.std.proofs.Common.{true, inl, inr, refl, ◌∙◌, rules, sym, true≢false}
use Rattle.server_jobs.specs.declared.parcel.Parcel.TheVariants.{Stop}
use Rattle.std.proofs.Math.ListN.{length-set}
use Rattle.server_acceptor.proofs.Sendings.{are_sent_marked, forced_kept, forced_put, stopped_now}
use Rattle.server_acceptor.proofs.StopSteps.{stop_proceeds, stops_none}
use Rattle.server_jobs.specs.Parcels.{is_stop}
use Rattle.server_acceptor.proofs.acceptor.Acceptor.send_stop.Goals as goal

pub returns-then-index-clause-proceeds : goal.returns-then-index-clause-proceeds
returns-then-index-clause-proceeds g c ls d = stop_proceeds g.Li.Listener.given g.Li.Listener.left g.Li.Listener.rest g.L.Link.identity g.Li.Listener.ended g.Li.Listener.faults g.Do.Done.taken g.Do.Done.count g.Do.Done.served ls c.args.self.now c.args.self.now d (g.met.Do.Done.small d) (stops_none _) (inl (record { rings = refl; sent_on = refl })) refl

pub returns-then-not-push_stop-clause-proceeds : goal.returns-then-not-push_stop-clause-proceeds
returns-then-not-push_stop-clause-proceeds g c ls d =
    let k = c.push_stop.ensures.keeps (search rules) in
    stop_proceeds g.Li.Listener.given g.Li.Listener.left g.Li.Listener.rest g.L.Link.identity g.Li.Listener.ended g.Li.Listener.faults g.Do.Done.taken g.Do.Done.count g.Do.Done.served ls c.args.self.now c.push_stop.new.self d (g.met.Do.Done.small d) c.push_stop.ensures.only (inl k.0) k.0.rings

pub returns-then-not-push_stop-clause-forces : goal.returns-then-not-push_stop-clause-forces
returns-then-not-push_stop-clause-forces g c v is = forced_kept c.args.self.now.parcels.items c.push_stop.new.self.parcels.items (c.push_stop.ensures.keeps (search rules)).0 v is

pub returns-clause-proceeds : goal.returns-clause-proceeds
returns-clause-proceeds g c ls d =
    let p = c.push_stop.ensures.puts (search rules) in
    let o = c.push_stop.ensures.only in
    stop_proceeds g.Li.Listener.given g.Li.Listener.left g.Li.Listener.rest g.L.Link.identity g.Li.Listener.ended g.Li.Listener.faults g.Do.Done.taken g.Do.Done.count g.Do.Done.served ls c.args.self.now _ d (g.met.Do.Done.small d) (record { core = o.core; events = o.events; notes = o.notes; ready = o.ready; waiting = o.waiting; serial = o.serial; places = o.places; failed = o.failed; first = o.first; limit = o.limit; retry_limit = o.retry_limit; shutdown_timeout = o.shutdown_timeout; lacks_room = o.lacks_room; stop = o.stop }) (inr (c.args.w, true, p)) p.rings

pub returns-clause-forces : goal.returns-clause-forces
returns-clause-forces g c v is = forced_put c.args.self.now.parcels.items c.push_stop.new.self.parcels.items c.args.w v (Stop true) refl (c.push_stop.ensures.puts (search rules)) is

pub invariant_of-self-clause-stopped_sent : goal.invariant_of-self-clause-stopped_sent
invariant_of-self-clause-stopped_sent g c = are_sent_marked c.push_stop.new.self.parcels.items is_stop c.push_stop.new.self.stopped.items c.args.w
    (stopped_now c.args.self.now.parcels.items c.push_stop.new.self.parcels.items c.args.w true (c.push_stop.ensures.puts (search rules))) c.push_stop.new.self.stopped_sent

pub invariant_of-self-clause-workers : goal.invariant_of-self-clause-workers
invariant_of-self-clause-workers g c = let w = c.push_stop.new.self.workers in (w.0, w.1, w.2, length-set c.push_stop.new.self.stopped.items c.args.w true ∙ w.3)

pub returns-then-index-clause-only : goal.returns-then-index-clause-only
returns-then-index-clause-only g c = stops_none c.args.self.now

pub returns-then-index-clause-forces : goal.returns-then-index-clause-forces
returns-then-index-clause-forces g c = λ v is. is

pub returns-then-index-clause-others : goal.returns-then-index-clause-others
returns-then-index-clause-others g c = λ v got. got

pub returns-then-index-clause-still : goal.returns-then-index-clause-still
returns-then-index-clause-still g c = λ v other lacks. lacks

pub returns-then-index-clause-lacks : goal.returns-then-index-clause-lacks
returns-then-index-clause-lacks g c = λ is. absurd (true≢false is)

pub returns-then-not-push_stop-clause-only : goal.returns-then-not-push_stop-clause-only
returns-then-not-push_stop-clause-only g c = c.push_stop.ensures.only

pub returns-then-not-push_stop-clause-got : goal.returns-then-not-push_stop-clause-got
returns-then-not-push_stop-clause-got g c = λ is. absurd (true≢false (sym is))

pub returns-clause-only : goal.returns-clause-only
returns-clause-only g c = let o = c.push_stop.ensures.only in record { core = o.core; events = o.events; notes = o.notes; ready = o.ready; waiting = o.waiting; serial = o.serial; places = o.places; failed = o.failed; first = o.first; limit = o.limit; retry_limit = o.retry_limit; shutdown_timeout = o.shutdown_timeout; lacks_room = o.lacks_room; stop = o.stop }

pub returns-clause-lacks : goal.returns-clause-lacks
returns-clause-lacks g c = λ is. absurd (true≢false is)
