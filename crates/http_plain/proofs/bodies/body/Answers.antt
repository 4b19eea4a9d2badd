use Rattle.std.proofs.Common.{◌≡◌, sym, subst, refl, ◌∙◌}
use Rattle.std.specs.Prelude.{IfOk}
use Rattle.http_plain.specs.HandedOn.{body_of}
use Rattle.http_plain.proofs.BodySteps.{none_taken, is_empty, is_sized, is_large, is_chunked, is_faulty}
use Rattle.http_plain.proofs.bodies.body.Goals as goal

pub returns-in-Empty : goal.returns-in-Empty
returns-in-Empty c =
    subst (λ found. IfOk c.sized.result (λ body. body_of body ≡ found))
    (none_taken c.args.bytes.now ∙ is_empty c.args.limits c.args.head.now c.args.bytes.now _ (sym c.in-Empty.is ∙ c.in_ok-framing.ensures)) c.sized.ensures

pub returns-in-Sized : goal.returns-in-Sized
returns-in-Sized c =
    subst (λ found. IfOk c.sized-in-Sized.result (λ body. body_of body ≡ found))
    (is_sized c.args.limits c.args.head.now c.args.bytes.now _ c.in-Sized.size (sym c.in-Sized.is ∙ c.in_ok-framing.ensures)) c.sized-in-Sized.ensures

pub returns-in-TooLarge : goal.returns-in-TooLarge
returns-in-TooLarge c =
    is_large c.args.limits c.args.head.now c.args.bytes.now _ refl (sym c.in-TooLarge.is ∙ c.in_ok-framing.ensures)

pub returns-in-Chunked : goal.returns-in-Chunked
returns-in-Chunked c =
    subst (λ found. IfOk c.chunks.result (λ body. body_of body ≡ found))
    (is_chunked c.args.limits c.args.head.now c.args.bytes.now _ (sym c.in-Chunked.is ∙ c.in_ok-framing.ensures)) c.chunks.ensures

pub returns-in-Faulty : goal.returns-in-Faulty
returns-in-Faulty c =
    is_faulty c.args.limits c.args.head.now c.args.bytes.now _ (sym c.in-Faulty.is ∙ c.in_ok-framing.ensures)
