use Rattle.std.proofs.Common.{arith, rules}
use Rattle.server.proofs.Starts.{is_started}
use Rattle.server.proofs.starting.start_worker.Goals as goal

pub returns-in-Ok-start-clause-line : goal.returns-in-Ok-start-clause-line
returns-in-Ok-start-clause-line g c count =
    is_started g.F.ServerServiceFactory.may_serve g.F.ServerServiceFactory.may_leave g.F.ServerServiceFactory.may_ready g.F.ServerServiceFactory.may_init g.F.ServerServiceFactory.may_make
    c.args.factory.now c.in-Ok-clone.copy c.args.listeners (record { parcels = c.in-Ok.parcels; notes = c.in-Ok-new.notes; running = c.in-Ok-start.running })
    c.new-job.result c.in-Ok.taken c.in-Ok-new.noted
    c.in-Ok-start.ensures.job c.new-job.ensures.parcels c.new-job.ensures.notes c.new-job.ensures.factory c.new-job.ensures.listeners
    c.in-Ok.ensures.pair c.in-Ok.ensures.producer.0 c.in-Ok.ensures.consumer.0 c.in-Ok-new.ensures.pair c.in-Ok-new.ensures.producer.0 c.in-Ok-new.ensures.consumer.0
    (let cap = c.in-Ok-new.ensures.producer.2 in omega (arith, cap)) (c.requires.may_start.clones c.in-Ok-clone.copy (search rules)) g.L.Link.identity count
