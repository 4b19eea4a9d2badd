use Rattle.std.proofs.Common.{◌≡◌, ◌++◌}
use Rattle.generator.specs.Generator.{requests}
use Rattle.generator.proofs.requests.push_requests.Given as goal

abbrev pub invariant-loop-done : goal.invariant-loop-done
invariant-loop-done l = record {
  bytes : l.bytes ≡ l.fn.bytes ++ (requests l._done l.fn.generator.state).0;
  state : l.generator.state ≡ (requests l._done l.fn.generator.state).1;
}
