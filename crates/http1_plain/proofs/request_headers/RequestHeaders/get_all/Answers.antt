use Rattle.std.proofs.Common.{All, subst}
use Rattle.http1_plain.specs.Fields.{IsPair}
use Rattle.http1_plain.proofs.SpanSteps.{are_pairs, are_values}
use Rattle.http1_plain.proofs.request_headers.RequestHeaders.get_all.Goals as goal

pub returns-clause-valid : goal.returns-clause-valid
returns-clause-valid c =
    are_values c.args.self.now c.args.name.now
    (subst (All IsPair) c.self.view_is (are_pairs c.self.inside.text c.self.inside.spans.items c.self.invariant))
