use Rattle.std.proofs.Common.{◌≡◌, ◌-◌, subst, ap, ◌∙◌}
use Rattle.std.specs.Prelude.{IfOk}
use Rattle.http1_grammar.specs.Body.{chunks_within}
use Rattle.http_plain.specs.HandedOn.{body_of}
use Rattle.http_plain.specs.declared.piece.Piece.TheVariants.{Undecided, Refused, Chunk, Last}
use Rattle.http_plain.proofs.ChunkSteps.{no_count, by_piece}
use Rattle.http_plain.proofs.chunks.+chunks_within.Goals as goal

pub returns-then-count-eq0 : goal.returns-then-count-eq0
returns-then-count-eq0 t c = no_count c.args.count c.args.limits c.args.content c.args.bytes.now c.if-count-eq0.true

pub returns-in-Undecided : goal.returns-in-Undecided
returns-in-Undecided t c =
    by_piece c.args.count c.body.result c.saturating_sub.result c.args.limits c.args.content c.args.bytes.now Undecided
    c.if-count-eq0.false c.body.ensures.value (c.saturating_sub.ensures ∙ ap (λ n. c.body.result - n) c.len.ensures) c.in-Undecided.ensures

pub returns-in-Refused : goal.returns-in-Refused
returns-in-Refused t c =
    by_piece c.args.count c.body.result c.saturating_sub.result c.args.limits c.args.content c.args.bytes.now (Refused c.in-Refused.status)
    c.if-count-eq0.false c.body.ensures.value (c.saturating_sub.ensures ∙ ap (λ n. c.body.result - n) c.len.ensures) c.in-Refused.ensures

pub returns-in_ok-push_all-in-Chunk : goal.returns-in_ok-push_all-in-Chunk
returns-in_ok-push_all-in-Chunk t c =
    subst (λ found. IfOk c.chunks_within.result (λ body. body_of body ≡ found))
    (ap (λ content. chunks_within (c.args.count - 1) c.args.limits content c.in-Chunk.rest.now) c.in_ok-push_all-in-Chunk.ensures.ok
    ∙ by_piece c.args.count c.body.result c.saturating_sub.result c.args.limits c.args.content c.args.bytes.now (Chunk c.in-Chunk.more c.in-Chunk.rest)
    c.if-count-eq0.false c.body.ensures.value (c.saturating_sub.ensures ∙ ap (λ n. c.body.result - n) c.len.ensures) c.in-Chunk.ensures)
    c.chunks_within.ensures

pub returns-in-Last : goal.returns-in-Last
returns-in-Last t c =
    subst (λ found. IfOk c.trailer.result (λ body. body_of body ≡ found))
    (by_piece c.args.count c.body.result c.saturating_sub.result c.args.limits c.args.content c.args.bytes.now (Last c.in-Last.rest)
    c.if-count-eq0.false c.body.ensures.value (c.saturating_sub.ensures ∙ ap (λ n. c.body.result - n) c.len.ensures) c.in-Last.ensures)
    c.trailer.ensures
