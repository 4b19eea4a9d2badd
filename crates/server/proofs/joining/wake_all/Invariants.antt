use Rattle.std.proofs.Common.{◌≡◌}
use Rattle.server.proofs.joining.wake_all.Given as goal

abbrev pub invariant-loop-w : goal.invariant-loop-w
invariant-loop-w g l = g.Sp.Rests.counts l.spawner ≡ g.Sp.Rests.counts l.fn.spawner
