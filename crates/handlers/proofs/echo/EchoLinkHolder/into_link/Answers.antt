use Rattle.handlers.proofs.Ways.{steps_start}
use Rattle.handlers.proofs.echo.EchoLinkHolder.into_link.Goals as goal

pub returns : goal.returns
returns g c =
    record {
      value = c.unwrap.result;
      is = c.unwrap.ensures;
      holds = record {
        left = c.args.self.waiting;
        echoes = (steps_start g.L.Link c.unwrap.result c.args.self.waiting).echoes;
        ends = tt;
      };
    }
