use Rattle.std.proofs.Common.{append_assoc}
use Rattle.generator.proofs.requests.push_post.Goals as goal

pub returns : goal.returns
returns c =
    let letters = c.in_ok-body.ensures.items_if_clones_equal (λ y is. is) in
    simp append_assoc at (rw (c.deref.ensures.value, letters, c.in_ok-push_all.ensures.ok, c.as_bytes.ensures.value, c.in_ok-head.ensures.ok) at c.push_all-2.ensures.ok)
