use Rattle.std.proofs.Common.{◌∙◌}
use Rattle.http_plain.proofs.PlainSteps.{framed}
use Rattle.http_plain.proofs.framing.framing.Goals as goal

pub returns : goal.returns
returns c =
    c.framing_by.ensures
    ∙ framed c.args.most c.minor.result c.args.head.now c.headers.result.now c.headers-2.result.now c.as_slice.result.now c.as_slice-2.result.now
    c.in_ok-codings.codings.items c.in_ok-lengths.lengths.items c.minor.ensures c.headers.ensures c.headers-2.ensures
    c.as_slice.ensures.value c.as_slice-2.ensures.value c.in_ok-codings.ensures c.in_ok-lengths.ensures
