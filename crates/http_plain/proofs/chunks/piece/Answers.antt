use Rattle.std.proofs.Common.{◌+◌, take, ap, ◌∙◌}
use Rattle.std.proofs.lemmas.List.{take_rest}
use Rattle.http1_grammar.specs.Body.{chunk_by, chunk_size}
use Rattle.http_plain.proofs.ChunkSteps.{line_found, line_long, line_open}
use Rattle.http_plain.proofs.chunks.piece.Goals as goal

pub returns-in-Some : goal.returns-in-Some
returns-in-Some c =
    c.chunk_by.ensures
    ∙ ap (λ rest. chunk_by c.args.room rest (chunk_size (take c.in-Some.at (take c.min.result c.args.bytes.now)))) (take_rest c.args.bytes.now (c.in-Some.at + 1))
    ∙ line_found c.args.room c.args.bytes.now c.min.result c.min.ensures c.in-Some.at c.in-Some.ensures.within c.in-Some.ensures.value

pub returns-then-bytes-ge-MOST_OF_LINE : goal.returns-then-bytes-ge-MOST_OF_LINE
returns-then-bytes-ge-MOST_OF_LINE c =
    line_long c.args.room c.args.bytes.now c.min.result c.min.ensures c.in-None.ensures.value c.if-bytes-ge-MOST_OF_LINE.true

pub returns-else-bytes-ge-MOST_OF_LINE : goal.returns-else-bytes-ge-MOST_OF_LINE
returns-else-bytes-ge-MOST_OF_LINE c =
    line_open c.args.room c.args.bytes.now c.min.result c.min.ensures c.in-None.ensures.value c.if-bytes-ge-MOST_OF_LINE.false
