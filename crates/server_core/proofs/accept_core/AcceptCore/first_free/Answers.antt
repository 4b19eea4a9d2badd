use Rattle.std.proofs.Common.{ap, ◌∙◌}
use Rattle.server_core.specs.Core.{first_free, picked}
use Rattle.server_core.specs.Inside.{core_of}
use Rattle.server_core.proofs.Picks.{picked_free}
use Rattle.server_core.proofs.accept_core.AcceptCore.first_free.Goals as goal

pub returns : goal.returns
returns c =
    c.first.ensures
    ∙ ap (picked (core_of c.self.inside)) c.default.ensures
    ∙ picked_free (core_of c.self.inside)
    ∙ ap first_free c.self.view_is
