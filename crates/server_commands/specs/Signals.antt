-- Words on commands with a signal, and what an answer of theirs rests on.
use Rattle.std.specs.Prelude.{Option, option_map}
use Rattle.futures.specs.declared.future.Future.{Ghosts as FutureOf}
use Rattle.service_core.specs.declared.watched.Watched.{Watched}
use Rattle.server_commands.specs.declared.commands.Commands.{Ghosts as CommandsOf}
use Rattle.server_commands.specs.declared.with_signal.WithSignal.{WithSignal}

module _ {Fut Co : Type 0} {g : FutureOf Fut (Unit {0})} {h : CommandsOf Co} where
  -- the source whose commands are handed on
  abbrev pub behind : WithSignal Fut Co g h → Co
  behind with_signal = with_signal.commands

  -- the signal, with the count of the polls at which it was not there yet, and none once it has come
  abbrev pub signal_of : WithSignal Fut Co g h → Option (Watched Fut)
  signal_of with_signal = option_map (λ awaited. awaited.signal) with_signal.signal
