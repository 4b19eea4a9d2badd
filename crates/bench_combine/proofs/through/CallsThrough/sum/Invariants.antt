-- The sum is that of the answers so far.
use Rattle.std.proofs.Common.{◌≡◌, ℕ}
use Rattle.bench_combine.specs.Adding.{Adds, total}
use Rattle.bench_combine.proofs.through.CallsThrough.sum.Given as goal

abbrev pub invariant-loop-req : goal.invariant-loop-req
invariant-loop-req g l = (k : ℕ) → Adds k (g.S.Service.may l.fn.service) → l.sum ≡ total k l.req
