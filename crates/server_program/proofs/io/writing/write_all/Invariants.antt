use Rattle.std.proofs.Common.{◌≡◌, ◌≤◌, ℕ, length, take, drop}
use Rattle.server_program.specs.Stream.{Gains}
use Rattle.server_program.proofs.io.writing.write_all.Given as goal

abbrev pub invariant-loop-rest : goal.invariant-loop-rest
invariant-loop-rest g l = record {
  written : ℕ;
  gained : Gains (g.Si.Sink.got l.fn.sink) (take written l.text) (g.Si.Sink.got l.sink);
  rest_is : l.rest ≡ drop written l.text;
  within : written ≤ length l.text;
  faults : g.Si.Sink.faults l.fn.sink ≤ g.Si.Sink.faults l.sink;
}

abbrev pub decreases-loop-rest : goal.decreases-loop-rest
decreases-loop-rest g l = length l.rest
