use Rattle.std.proofs.Common.{rules, arith, ◌≡◌, ◌+◌, ◌%◌, ◌^◌, Ok, sym}
use Rattle.bench_combine.proofs.AddingLemmas.{total-more}
use Rattle.bench_combine.proofs.through.CallsThrough.sum.Goals as goal

pub loop-req-init : goal.loop-req-init
loop-req-init g c k adds = search rules

pub loop-req-preserved : goal.loop-req-preserved
loop-req-preserved g c k adds =
    let given : g.S.Service.may c.args.service c.loop-req.req (Ok c.in_ok-sum.field-0) = search rules in
    let answer : c.in_ok-sum.field-0 ≡ (c.loop-req.req + k) % 2 ^ 32
    = adds c.loop-req.req c.in_ok-sum.field-0 (omega arith) given in
    rw (c.loop-req.invariant k adds, answer) (total-more k c.loop-req.req)

pub returns : goal.returns
returns g c k adds =
    let all : c.loop-req.req ≡ c.args.self.0 = omega arith in
    let no_more : k + 0 ≡ k = omega arith in
    rw (no_more, sym all) (c.loop-req.invariant k adds)
