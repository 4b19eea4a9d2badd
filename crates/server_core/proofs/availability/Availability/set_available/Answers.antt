use Rattle.std.proofs.Common.{ap, ◌∙◌}
use Rattle.server_core.specs.Numbers.{with_mark}
use Rattle.server_core.proofs.Marks.{marked_view}
use Rattle.server_core.proofs.availability.Availability.set_available.Goals as goal

pub returns : goal.returns
returns c =
    rw (c.offset-group.ensures.quotient) (marked_view c.self.inside.words c.args.idx c.with_mark.result c.args.avail c.self.told c.requires
    (rw c.offset-group.ensures.remainder at c.with_mark.ensures.there)
    (rw (c.offset-group.ensures.remainder, c.offset-group.ensures.quotient) at c.with_mark.ensures.others)
    ∙ ap (λ s. with_mark s c.args.idx c.args.avail) c.self.view_is)
