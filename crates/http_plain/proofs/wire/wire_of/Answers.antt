use Rattle.std.proofs.Common.{refl, ap, ◌∙◌}
use Rattle.http1_grammar.specs.Wire.{body_part}
use Rattle.http_plain.specs.Statuses.{number_of}
use Rattle.http_plain.proofs.WireSteps.{parts_are}
use Rattle.http_plain.proofs.wire.wire_of.Goals as goal

pub returns : goal.returns
returns c =
    parts_are c.args.method.now c.args.minor (number_of c.args.status) c.args.body.now c.args.closing _ _ _ _ _ _ _ _ _
    (c.in_ok-written.ensures ∙ c.status_line.ensures)
    c.in_ok-push_all.ensures.ok (c.as_bytes.ensures ∙ c.in_ok-length.ensures)
    c.in_ok-push_all-2.ensures.ok c.connection_line.ensures
    c.in_ok-push_all-3.ensures.ok refl
    c.in_ok-push_all-4.ensures.ok
    (c.body_part.ensures ∙ ap (λ answers_head. body_part answers_head (number_of c.args.status) c.args.body.now) c.is_head.ensures)
