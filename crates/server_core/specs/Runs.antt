-- Lists of events.
use Rattle.std.specs.Prelude.{◌≡◌, ℕ, ◌+◌, ◌<◌, slice_index_or, Bool, true, false, cond, List, [], ◌∷◌}
use Rattle.server_core.specs.declared.command.Command.TheVariants.{Resume}
use Rattle.server_core.specs.declared.event.Event.{Event}
use Rattle.server_core.specs.declared.event.Event.TheVariants.{Command}
use Rattle.server_core.specs.Core.{Core, allowed, step, in_order, round, place_of, place_or_first}
use Rattle.std.specs.FinSet as set

-- each event is allowed where it stands
abbrev pub AllAllowed : Core → List Event → Type 0
AllAllowed s [] = Unit {0}
AllAllowed s (e ∷ es) = (allowed s e ≡ true) × AllAllowed (step s e) es

abbrev pub after_all : Core → List Event → Core
after_all s [] = s
after_all s (e ∷ es) = after_all (step s e) es

-- events that aren't allowed where they stand are passed over
abbrev pub after_any : Core → List Event → Core
after_any s [] = s
after_any s (e ∷ es) = after_any (cond (allowed s e) (step s e) s) es

abbrev pub is_resume : Event → Bool
is_resume (Command Resume) = true
is_resume _ = false

-- w is the first free worker from next on and round, and the next turn begins behind it
pub record TakesTurn (s : Core) (w next : ℕ) : Type 0 where
  pub stands : in_order s.order w ≡ true
  pub free : set.contains s.free w ≡ true
  pub earlier : (k d : ℕ) → k < place_of (round s.order s.next) w → set.contains s.free (slice_index_or (round s.order s.next) k d) ≡ false
  pub behind : next ≡ place_or_first s.order (place_of s.order w + 1)
