use Rattle.std.proofs.Common.{refl}
use Rattle.server_jobs.proofs.JoinSteps.{each_once}
use Rattle.server_jobs.proofs.line.Line.join.Goals as goal

pub returns-clause-once : goal.returns-clause-once
returns-clause-once g c =
    let line = c.requires in
    let a = c.slots_beside in
    let b = c.slots_beside-2 in
    let out = c.into_handed-handed.result in
    each_once g.L.Link.identity line.inward line.outward out (record {
      parcels = a.new.producer;
      notes = b.new.self;
      handed = record out { parcels = a.new.self; notes = b.new.producer };
    }) (rw c.into_handed-handed.ensures (line.accounts _ c.end.ensures)) line.balanced
    a.ensures.looked.1 a.ensures.fifo b.ensures.producer.1 b.ensures.fifo refl refl
