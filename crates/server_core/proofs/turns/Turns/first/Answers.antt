use Rattle.std.proofs.Common.{◌≡◌, Some, rules, ap, ◌∙◌}
use Rattle.std.specs.Prelude.{find, MatchOption}
use Rattle.server_core.specs.Core.{round}
use Rattle.server_core.specs.Turns.{Rota, is_left}
use Rattle.server_core.proofs.Walks.{round_or}
use Rattle.server_core.proofs.turns.Turns.first.Goals as goal

pub returns : goal.returns
returns c =
    let either : MatchOption c.first_from.result (c.or_else.result ≡ find (is_left c.args.self.now.free c.args.passed.now) c.args.self.now.order) (λ w. c.or_else.result ≡ Some w) = search rules in
    round_or (is_left c.args.self.now.free c.args.passed.now) c.args.self.now.order c.self.inside.next c.first_from.result c.or_else.result c.first_from.ensures either
    ∙ ap (λ (r : Rota). find (is_left c.args.self.now.free c.args.passed.now) (round c.args.self.now.order r.next)) c.self.view_is
