use Rattle.server.proofs.Bringing.{room_for}
use Rattle.worker_job.specs.Promise.{HandsOver}
use Rattle.server.proofs.returning.return_one.Goals as goal

pub hand_on-requires : goal.hand_on-requires
hand_on-requires g c =
    room_for g.L.Link.identity (λ job out. HandsOver g.L.Link.identity g.F.ServerServiceFactory.may_serve g.F.ServerServiceFactory.may_leave g.F.ServerServiceFactory.may_ready g.F.ServerServiceFactory.may_init g.F.ServerServiceFactory.may_make job out) (λ all. all)
    c.args.worker c.join-joined.result c.args.line _ c.join-joined.ensures.once c.join-joined.ensures.sent c.join-joined.ensures.received c.requires.room

pub returns : goal.returns
returns g c = record {
  joined = record {
    joined = c.join-joined.result;
    hands = c.join-joined.ensures.handed;
    same_sent = c.join-joined.ensures.sent;
    same_received = c.join-joined.ensures.received;
    to_it = c.join-joined.ensures.to_it;
    from_it = c.join-joined.ensures.from_it;
    once = c.join-joined.ensures.once;
  };
  hands = c.hand_on.ensures.hands;
}
