use Rattle.std.proofs.Common.{◌∙◌, IsUtf8, List, subst, sym, ℕ}
use Rattle.server_program.proofs.Formed.{address_is_text}
use Rattle.server_program.proofs.form.address_of.Goals as goal

pub unreachable-requires : goal.unreachable-requires
unreachable-requires c =
    c.in-Err.ensures.cases.0
    (subst (λ (bs : List ℕ). IsUtf8 bs) (sym (c.as_bytes.ensures ∙ c.addr-item.is)) (address_is_text c.requires.0 c.args.words.now c.addr-item.result c.requires.1))
