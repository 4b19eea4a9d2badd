use Rattle.std.proofs.Common.{ap, ◌∙◌}
use Rattle.std.specs.Prelude.{is_some}
use Rattle.server_core.proofs.Places.{placed_in}
use Rattle.server_core.proofs.turns.Turns.has.Goals as goal

pub returns : goal.returns
returns c = c.is_some.ensures ∙ ap is_some c.place.ensures ∙ placed_in c.args.self.now.order c.args.w
