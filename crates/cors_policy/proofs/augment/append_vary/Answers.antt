use Rattle.std.proofs.Common.{◌≡◌, ℕ, List, [], ◌∷◌, ◌++◌, OnOk, codes, subst}
use Rattle.cors_policy.proofs.VarySteps.{vary_last}
use Rattle.cors_policy.proofs.augment.append_vary.Goals as goal

pub returns-clause-ok : goal.returns-clause-ok
returns-clause-ok c =
    let headers = c.args.headers.now in
    rw (← vary_last headers c.requires)
    (subst (λ (value : List ℕ). OnOk c.append.result (c.append.new.self ≡ headers ++ (codes "vary", value) ∷ [])) c.in_ok-value.ensures c.append.ensures.ok)
