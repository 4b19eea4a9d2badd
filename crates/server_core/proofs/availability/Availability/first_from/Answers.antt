use Rattle.std.proofs.Common.{arith}
use Rattle.server_core.proofs.Searches.{found_in, none_in}
use Rattle.server_core.proofs.availability.Availability.first_from.Goals as goal

pub returns-in-Some : goal.returns-in-Some
returns-in-Some c =
    let first = rw c.max-start.ensures at c.in-Some.ensures in
    rw (← c.self.view_is) (found_in c.self.inside.words c.args.from c.loop-group.group c.in-Some.place (omega arith) (omega arith) c.loop-group.invariant first)

pub returns : goal.returns
returns c =
    rw (← c.self.view_is) (none_in c.self.inside.words c.args.from (λ i low small. c.loop-group.invariant i low (omega arith)))
