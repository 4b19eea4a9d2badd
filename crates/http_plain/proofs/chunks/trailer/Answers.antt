use Rattle.std.proofs.Common.{Some, ap, ◌∙◌}
use Rattle.std.proofs.lemmas.List.{take_rest}
use Rattle.http1_grammar.specs.Body.{whole}
use Rattle.http_plain.proofs.ChunkSteps.{trailer_is, trailer_long, trailer_open}
use Rattle.http_plain.proofs.chunks.trailer.Goals as goal

pub returns-in_ok-of-in-Some : goal.returns-in_ok-of-in-Some
returns-in_ok-of-in-Some c =
    ap (whole c.args.content) (c.in_ok-of-in-Some.ensures ∙ take_rest c.args.bytes.now c.in-Some.len)
    ∙ trailer_is c.args.limits c.args.content c.args.bytes.now c.min.result c.head-most.result c.head-most.ensures.value c.min.ensures
    (Some c.in-Some.len) c.in-Some.ensures.value

pub returns-then-most-bytes : goal.returns-then-most-bytes
returns-then-most-bytes c =
    trailer_long c.args.limits c.args.content c.args.bytes.now c.min.result c.head-most.result c.head-most.ensures.value c.min.ensures
    c.in-None.ensures.value c.if-most-bytes.true

pub returns-else-most-bytes : goal.returns-else-most-bytes
returns-else-most-bytes c =
    trailer_open c.args.limits c.args.content c.args.bytes.now c.min.result c.head-most.result c.head-most.ensures.value c.min.ensures
    c.in-None.ensures.value c.if-most-bytes.false
