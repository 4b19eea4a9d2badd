use Rattle.std.proofs.Common.{All, subst}
use Rattle.http1_plain.specs.Fields.{IsPair}
use Rattle.http1_plain.proofs.SpanSteps.{are_pairs}
use Rattle.http1_plain.proofs.request_headers.RequestHeaders.iter.Goals as goal

pub returns-clause-valid : goal.returns-clause-valid
returns-clause-valid c = subst (All IsPair) c.self.view_is (are_pairs c.self.inside.text c.self.inside.spans.items c.self.invariant)
