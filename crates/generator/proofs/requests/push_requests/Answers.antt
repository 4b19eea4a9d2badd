use Rattle.std.proofs.Common.{ℕ, sym, ◌∙◌, ap}
use Rattle.generator.specs.Generator.{request}
use Rattle.generator.proofs.More.{bytes_more, state_more}
use Rattle.generator.proofs.requests.push_requests.Goals as goal

pub loop-done-preserved : goal.loop-done-preserved
loop-done-preserved c =
    let so_far = c.loop-done.invariant in
    let pushed = c.in_ok-push_request.ensures in
    record {
      bytes = bytes_more c.loop-done._done c.args.generator.now.state _ c.args.bytes.now _ _ so_far.bytes so_far.state pushed.bytes;
      state = pushed.state ∙ ap (λ (state : ℕ). (request state).1) so_far.state ∙ sym (state_more c.loop-done._done c.args.generator.now.state);
    }
