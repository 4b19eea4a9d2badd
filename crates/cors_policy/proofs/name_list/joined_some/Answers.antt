use Rattle.std.proofs.Common.{◌≡◌, ◌≤◌, ◌-◌, ℕ, List, [], ◌∷◌, length, get_or, take, take_all, drop, Some, ap, ◌∙◌, arith}
use Rattle.cors_rules.specs.Sets.{Texts, joined, joined_some}
use Rattle.cors_policy.proofs.name_list.joined_some.Goals as goal

all_joined : (names : Texts) (first copy text : List ℕ) → 1 ≤ length names → first ≡ get_or names 0 first → copy ≡ first → text ≡ joined (copy ∷ take (length names - 1) (drop 1 names))
    → Some text ≡ joined_some names
all_joined [] first copy text some is same joins = absurd (omega arith)
all_joined (name ∷ names) first copy text some is same joins =
    let rest = take_all (length (name ∷ names) - 1) names (omega arith) in
    ap (λ t. Some t) (joins ∙ ap (λ ns. joined (copy ∷ ns)) rest ∙ ap (λ n. joined (n ∷ names)) (same ∙ is))

pub returns-in_ok-joined_behind-in-len1-up : goal.returns-in_ok-joined_behind-in-len1-up
returns-in_ok-joined_behind-in-len1-up c =
    all_joined c.args.names.now c.first-item.result c.in_ok-copy-in-len1-up.field-0 c.in_ok-joined_behind-in-len1-up.field-0 c.in-len1-up.len_at_least c.first-item.is
    c.in_ok-copy-in-len1-up.ensures c.in_ok-joined_behind-in-len1-up.ensures
