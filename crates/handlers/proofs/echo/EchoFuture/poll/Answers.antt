use Rattle.std.proofs.Common.{sym, ◌∙◌}
use Rattle.handlers.proofs.Ways.{gives_more, kept_gives}
use Rattle.handlers.proofs.echo.EchoFuture.poll.Goals as goal

pub returns-in-Pending-clause-same : goal.returns-in-Pending-clause-same
returns-in-Pending-clause-same g c =
    λ x h. record {
      value = c.unwrap-link.result;
      is = sym c.take.ensures.value ∙ c.unwrap-link.ensures;
      holds = gives_more g.L.Link _ _ _ _ x c.in-Pending.ensures.polled (kept_gives g.L.Link _ _ x h);
    }
