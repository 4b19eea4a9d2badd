-- Stops among the commands that wait.
use Rattle.std.proofs.Common.{◌≡◌, ◌+◌, List, [], ◌∷◌, ◌++◌, arith}
use Rattle.server_commands.specs.Posts.{stop_of, stops_in}
use Rattle.server_commands.specs.declared.posted.Posted.{Posted}

-- with one more behind them
pub stops_with_last : (waiting : List Posted) (posted : Posted) → stops_in (waiting ++ posted ∷ []) ≡ stops_in waiting + stop_of posted.command
stops_with_last [] posted = omega arith
stops_with_last (first ∷ waiting) posted = let more = stops_with_last waiting posted in omega (arith, more)
