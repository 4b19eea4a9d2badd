use Rattle.std.proofs.Common.{refl, ◌∷◌, []}
use Rattle.server_core.proofs.Marks.{empty_view}
use Rattle.server_core.proofs.availability.AvailabilityDefault.default.Goals as goal

pub returns : goal.returns
returns c = empty_view (0 ∷ 0 ∷ 0 ∷ 0 ∷ []) refl
