use Rattle.std.proofs.Common.{◌≡◌, ◌≤◌, ◌*◌}
use Rattle.script.specs.Plan.{plan}
use Rattle.generator.specs.Generator.{generated, request_count}
use Rattle.generator.proofs.More.{state_behind}
use Rattle.generator.proofs.generating.generate.Given as goal

abbrev pub invariant-loop-done : goal.invariant-loop-done
invariant-loop-done l = record {
  served : plan l.script ≡ generated l._done l.fn.seed;
  counted : l.requests ≡ request_count l._done l.fn.seed;
  few : l.requests ≤ 4 * l._done;
  state : l.generator.state ≡ state_behind l._done l.fn.seed;
}
