use Rattle.std.proofs.Common.{ap, ◌∙◌}
use Rattle.std.specs.FinSet.{contains}
use Rattle.server_core.proofs.Marks.{contains_view_in, member_below}
use Rattle.server_core.proofs.availability.Availability.get_available.Goals as goal

pub returns-clause-value : goal.returns-clause-value
returns-clause-value c =
    let inside = contains_view_in c.self.inside.words c.args.idx c.requires in
    let seen = ap (λ s. contains s c.args.idx) c.self.view_is in
    cc (c.has_bit.ensures, c.offset-group.ensures.quotient, c.offset-group.ensures.remainder, inside, seen)

pub returns-clause-below : goal.returns-clause-below
returns-clause-below c = λ w there. member_below c.self.inside.words w (ap (λ s. contains s w) c.self.view_is ∙ there)
