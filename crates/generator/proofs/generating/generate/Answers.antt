use Rattle.std.proofs.Common.{ℕ, sym, ◌∙◌, ap, arith}
use Rattle.generator.specs.Generator.{on_connection}
use Rattle.generator.proofs.More.{count_more, state_behind_more}
use Rattle.generator.proofs.Standing.{is_served, stands}
use Rattle.generator.proofs.generating.generate.Goals as goal

pub push_connection-requires : goal.push_connection-requires
push_connection-requires c =
    let so_far = c.loop-done.invariant in
    stands _ _ _ _ _ (omega arith) so_far.served so_far.state c.in_ok-made.ensures.bytes

pub loop-done-preserved : goal.loop-done-preserved
loop-done-preserved c =
    let so_far = c.loop-done.invariant in
    let made = c.in_ok-made.ensures in
    record {
      served = is_served _ _ _ _ _ (omega arith) so_far.served so_far.state made.bytes _ c.in_ok-push_connection.ensures;
      counted = count_more _ _ _ _ _ so_far.state so_far.counted made.count;
      few = omega (arith, made.count);
      state = made.state ∙ ap (λ (state : ℕ). (on_connection state).1) so_far.state ∙ sym (state_behind_more c.loop-done._done c.args.seed);
    }
