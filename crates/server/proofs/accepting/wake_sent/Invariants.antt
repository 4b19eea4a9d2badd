use Rattle.std.proofs.Common.{◌≡◌}
use Rattle.server.proofs.accepting.wake_sent.Given as goal

abbrev pub invariant-loop-event : goal.invariant-loop-event
invariant-loop-event g l = g.Sp.Rests.counts l.spawner ≡ g.Sp.Rests.counts l.fn.spawner
