use Rattle.std.proofs.Common.{◌<◌, ◌≤◌, ◌/◌, ap, sym, ◌∙◌, length, arith}
use Rattle.std.proofs.lemmas.Bool.Decides.{nat_tests}
use Rattle.std.specs.FinSet.{contains}
use Rattle.server_core.proofs.Marks.{contains_view_in, contains_view_out}
use Rattle.server_core.proofs.availability.Availability.holds.Goals as goal

pub returns-in-Some : goal.returns-in-Some
returns-in-Some c =
    let group : c.args.idx / 128 < length c.self.inside.words = c.in-Some.ensures.lookup.3.0 in
    let small : c.args.idx < 512 = omega arith in
    let inside = contains_view_in c.self.inside.words c.args.idx small in
    let seen = ap (λ s. contains s c.args.idx) c.self.view_is in
    let word = c.in-Some.ensures.lookup.3.1 0 in
    cc (c.has_bit.ensures, word, inside, seen)

pub returns-in-None : goal.returns-in-None
returns-in-None c =
    let group : length c.self.inside.words ≤ c.args.idx / 128 =
    let none = c.in-None.ensures.lookup.0 in grind (arith, nat_tests) in
    let large : 512 ≤ c.args.idx = omega arith in
    sym (ap (λ s. contains s c.args.idx) (sym c.self.view_is) ∙ contains_view_out c.self.inside.words c.args.idx large)
