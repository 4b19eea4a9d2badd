use Rattle.std.proofs.Common.{refl}
use Rattle.server_core.proofs.Places.{sound_none}
use Rattle.server_core.proofs.turns.TurnsDefault.default.Goals as goal

pub invariant_of-result : goal.invariant_of-result
invariant_of-result c = let none = sound_none _ _ _ c.new.ensures refl c.default.ensures in record { fits = none.0; places = none.1; marks = none.2 }
