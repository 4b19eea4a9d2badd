use Rattle.server_acceptor.proofs.AcceptSteps.{ended_at, fall_neither, falls_not, listens, marked_at}
use Rattle.server_acceptor.proofs.listening.accept_at.Goals as goal

pub returns : goal.returns
returns g c =
    let ls = c.args.listeners.now.items in
    let l = c.index_mut.result.now in
    let m = c.accept.new.self in
    let is = c.index_mut.ensures.value in
    let e = c.accept.ensures in
    record {
      answer = listens ls c.args.t l m c.requires.inside is g.Li.Listener.given g.Li.Listener.left g.Li.Listener.waits g.Li.Listener.skips g.Li.Listener.faults g.Li.Listener.ended c.accept.result e.link e.small e.ended e.waited e.skipped e.failed;
      faults = falls_not ls c.args.t l m c.requires.inside is g.Li.Listener.faults e.failed.never_falls;
      ended_only = λ has. e.ended.0 (ended_at ls c.args.t l m c.requires.inside is g.Li.Listener.ended has);
      counts = fall_neither ls c.args.t l m c.requires.inside is g.Li.Listener.waits g.Li.Listener.skips e.waited.never_falls e.skipped.never_falls;
      marked = marked_at ls c.args.t l m c.requires.inside is g.Li.Listener.rest c.accept.result e.marked;
    }
