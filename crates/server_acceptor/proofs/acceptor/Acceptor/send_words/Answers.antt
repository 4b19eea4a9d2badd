use Rattle.std.proofs.Common.{◌≤◌, ◌+◌, inl, inr, sym, subst, arith}
use Rattle.server_acceptor.specs.Acceptors.{workers_of}
use Rattle.server_core.specs.Core.{Core}
use Rattle.std.proofs.Common.{ap, length}
use Rattle.server_acceptor.proofs.DoesSteps.{proceeds_none, proceeds_trans}
use Rattle.server_acceptor.proofs.StopSteps.{stops_none, stops_trans}
use Rattle.server_acceptor.proofs.WordSteps.{Words, words_more, words_none, words_stopped}
use Rattle.server_acceptor.proofs.acceptor.Acceptor.send_words.Goals as goal

pub loop-w-init : goal.loop-w-init
loop-w-init g c = record {
  proceeds = λ ls d. proceeds_none g.Li.Listener.given g.Li.Listener.left g.Li.Listener.rest g.L.Link.identity g.Li.Listener.ended g.Li.Listener.faults g.Do.Done.taken g.Do.Done.count g.Do.Done.served ls _ d (g.met.Do.Done.small d);
  only = stops_none _;
  forces = λ v is. inl is;
  words = words_none _ c.args.force;
}

pub loop-w-preserved : goal.loop-w-preserved
loop-w-preserved g c = record {
  proceeds = λ ls d. proceeds_trans g.Li.Listener.given g.Li.Listener.left g.Li.Listener.rest g.L.Link.identity g.Li.Listener.ended g.Li.Listener.faults g.Do.Done.taken g.Do.Done.count g.Do.Done.served ls ls ls _ _ _ d d d (c.loop-w.invariant.proceeds ls d) (c.send_word.ensures.proceeds ls d);
  only = stops_trans _ _ _ c.loop-w.invariant.only c.send_word.ensures.only;
  forces = λ v is. elim (c.send_word.ensures.forces v is) [
    | inl before ↦ c.loop-w.invariant.forces v before
    | inr force ↦ inr force
  ];
  words = subst (λ b. Words c.send_word.new.self c.args.force b (c.loop-w.w + 1)) (sym c.both-all.ensures)
      (words_more c.loop-w.self c.send_word.new.self c.args.force c.loop-w.all c.send_word.result c.loop-w.w c.loop-w.invariant.words c.send_word.ensures.got c.send_word.ensures.lacks c.send_word.ensures.others c.send_word.ensures.still);
}

pub returns-clause-each : goal.returns-clause-each
returns-clause-each g c v below = c.loop-w.invariant.words.each v
    (omega (arith, below, c.loop-w-test.false, c.len-w-end.ensures, c.args.self.now.workers.0, ap (λ (k : Core). length k.out) c.loop-w.invariant.only.core))

pub returns-clause-stopped : goal.returns-clause-stopped
returns-clause-stopped g c is =
    let many : workers_of c.loop-w.self ≤ c.loop-w.w = omega (arith, c.loop-w-test.false, c.len-w-end.ensures, c.args.self.now.workers.0, ap (λ (k : Core). length k.out) c.loop-w.invariant.only.core) in
    words_stopped c.loop-w.self c.args.force c.loop-w.all c.loop-w.w c.loop-w.invariant.words many is

pub returns-clause-lacks : goal.returns-clause-lacks
returns-clause-lacks g c is = let l = c.loop-w.invariant.words.lacks is in (l.0, l.1)
