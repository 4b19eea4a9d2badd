use Rattle.std.proofs.Common.{◌≤◌}
use Rattle.futures.specs.Task.{Keeps}
use Rattle.server_acceptor.specs.Acceptors.{out_of}
use Rattle.server_acceptor.proofs.TakeSteps.{TakenSome}
use Rattle.server_acceptor.proofs.acceptor.Acceptor.take_commands.Given as goal

abbrev pub invariant-loop-k : goal.invariant-loop-k
invariant-loop-k g l = record {
  some : TakenSome g.Do.Done.taken g.Do.Done.count g.Do.Done.served g.Co.Commands.given g.Co.Commands.stops g.Co.Commands.idles g.Co.Commands.ended l.fn.self l.self l.fn.done l.done l.fn.commands l.commands l.now l.k;
  spare : out_of l.self ≤ g.Do.Done.spare l.done;
  kept : Keeps l.fn.cx l.cx;
  few : l.k ≤ 256;
}
