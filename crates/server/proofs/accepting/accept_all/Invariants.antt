use Rattle.std.proofs.Common.{◌≡◌, ℕ, None, false, length, vec_len}
use Rattle.server_run.specs.Serving.{MayFault}
use Rattle.server.specs.Accepting.{Accepts, CanAccept, Hears}
use Rattle.server.specs.Replacing.{Crew, Restarts}
use Rattle.server.specs.Retiring.{AreRetired}
use Rattle.server_acceptor.specs.Accepting.{IsClosing}
use Rattle.server_acceptor.specs.Acceptors.{core_of, parcels_of, shutdown_timeout_of}
use Rattle.server_acceptor.specs.Sending.{IsStopped}
use Rattle.server.proofs.accepting.accept_all.Given as goal

abbrev pub invariant-loop : goal.invariant-loop
invariant-loop g l =
    Accepts g.Li.Listener.given g.Li.Listener.left g.Li.Listener.rest g.Li.Link.Link.identity g.Li.Listener.ended g.Li.Listener.faults g.Do.Done.taken g.Do.Done.count g.Do.Done.served l.fn.listeners.items l.listeners.items l.fn.acceptor l.acceptor l.fn.done l.done false
    × CanAccept g.Li.Listener.given l.listeners.items l.acceptor (g.Do.Done.spare l.done)
    × Restarts (MayFault (g.F.ServerServiceFactory.may_ready l.fn.factory) (g.F.ServerServiceFactory.may_init l.fn.factory) (vec_len l.fn.listeners)) (g.Sp.Spawner.starts l.fn.spawner, g.Sp.Spawner.refusals l.fn.spawner) (g.Sp.Spawner.starts l.spawner, g.Sp.Spawner.refusals l.spawner)
    × Hears g.Co.Commands.given g.Co.Commands.stops g.Co.Commands.ended l.acceptor l.fn.commands l.commands (shutdown_timeout_of l.fn.acceptor) (g.Cl.Clock.told l.fn.clock) (g.Cl.Clock.told l.clock)
    × Crew g.F.ServerServiceFactory.may_serve g.F.ServerServiceFactory.may_leave g.F.ServerServiceFactory.may_ready g.F.ServerServiceFactory.may_init g.F.ServerServiceFactory.may_make g.Li.Link.Link.identity l.fn.factory (vec_len l.fn.listeners) l.acceptor l.running.items
    × (length l.running.items ≡ length l.fn.running.items)
    × ((w : ℕ) → IsStopped (parcels_of l.acceptor) w → IsClosing l.acceptor)
    × ((core_of l.acceptor).stopping ≡ None → AreRetired (g.F.ServerServiceFactory.may_init l.fn.factory) (vec_len l.fn.listeners) l.running.items (g.Sp.Spawner.starts l.fn.spawner, g.Sp.Spawner.refusals l.fn.spawner) (g.Sp.Spawner.starts l.spawner, g.Sp.Spawner.refusals l.spawner))
