use Rattle.std.proofs.Common.{ap, ◌∙◌, codes, refl}
use Rattle.http1_grammar.specs.Framing.{framing_by}
use Rattle.http1_grammar.specs.Headers.{get_all}
use Rattle.http1_head.specs.Framings.{capped}
use Rattle.http1_head.proofs.FramingSteps.{framing_at}
use Rattle.http1_head.proofs.fields.Fields.framing.Goals as goal

pub returns : goal.returns
returns c = λ head said version.
    c.framing_by.ensures (get_all head.headers (codes "transfer-encoding")) (get_all head.headers (codes "content-length")) said.coding said.length
    ∙ ap (λ minor. capped c.args.most (framing_by minor (get_all head.headers (codes "transfer-encoding")) (get_all head.headers (codes "content-length")))) version
    ∙ framing_at c.args.most head _ _ refl refl
