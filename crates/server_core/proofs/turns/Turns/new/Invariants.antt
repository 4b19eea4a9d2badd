-- The workers so far are in order and free.
use Rattle.std.proofs.Common.{◌≡◌}
use Rattle.std.specs.List.{range_with_len}
use Rattle.std.specs.FinSet as set
use Rattle.server_core.proofs.turns.Turns.new.Given as goal

abbrev pub invariant-loop-w : goal.invariant-loop-w
invariant-loop-w l = l.turns ≡ record { order = range_with_len 0 l.w; next = 0; free = set.from_list (range_with_len 0 l.w) }
