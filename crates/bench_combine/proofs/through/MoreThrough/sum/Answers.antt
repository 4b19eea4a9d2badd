use Rattle.std.proofs.Common.{rules, arith, sym, subst, ◌≡◌, ◌+◌}
use Rattle.bench_combine.specs.Adding.{Adds}
use Rattle.bench_combine.proofs.AddingLemmas.{map-adds}
use Rattle.bench_combine.proofs.through.MoreThrough.sum.Goals as goal

pub returns : goal.returns
returns g c k adds =
    let more : k + (g.T.Through.more c.args.self.0 + 1) ≡ k + 1 + g.T.Through.more c.args.self.0 = omega arith in
    let of_part : Adds k (g.S.Service.may c.in_ok-mapped.mapped.service)
    = subst (λ s. Adds k (g.S.Service.may s)) (sym c.in_ok-mapped.ensures.0) adds in
    rw more (c.sum.ensures (k + 1) (map-adds k _ _ _ of_part (λ b r turned. search rules)))
