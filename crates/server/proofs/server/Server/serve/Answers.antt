use Rattle.server.proofs.HearSteps.{answer_settled, gave_settled}
use Rattle.server.proofs.server.Server.serve.Goals as goal

pub returns-clause-commanded : goal.returns-clause-commanded
returns-clause-commanded g c =
    answer_settled g.Co.Commands.given g.Co.Commands.stops g.Co.Commands.ended _ _ _ c.serve_by-served.result c.serve_by-served.ensures.commanded c.settled.ensures.given c.settled.ensures.stops c.settled.ensures.ended

pub returns-clause-heard : goal.returns-clause-heard
returns-clause-heard g c =
    gave_settled g.Co.Commands.given g.Co.Commands.stops _ _ _ c.serve_by-served.result c.serve_by-served.ensures.heard c.settled.ensures.given c.settled.ensures.stops
