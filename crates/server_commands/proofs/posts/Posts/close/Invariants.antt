-- The stops that were posted stay.
use Rattle.std.proofs.Common.{◌≡◌, length}
use Rattle.server_commands.proofs.posts.Posts.close.Given as goal

abbrev pub invariant-loop-posted : goal.invariant-loop-posted
invariant-loop-posted l = l.self.stops_posted ≡ l.initial.self.stops_posted

abbrev pub decreases-loop-posted : goal.decreases-loop-posted
decreases-loop-posted l = length l.self.waiting.items
