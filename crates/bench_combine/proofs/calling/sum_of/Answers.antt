use Rattle.std.proofs.Common.{rules, arith, ◌≡◌, ◌∙◌, ◌+◌}
use Rattle.bench_combine.proofs.AddingLemmas.{unchanged}
use Rattle.bench_combine.proofs.calling.sum_of.Goals as goal

pub returns : goal.returns
returns g c =
    let maps : 0 + g.T.Through.more c.args.through ≡ g.T.Through.more c.args.through = omega arith in
    rw maps at
    (c.sum.ensures 0 (λ n a fits given. let same : a ≡ n = search rules in same ∙ unchanged n fits))
