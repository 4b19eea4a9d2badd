use Rattle.std.proofs.Common.{rules}
use Rattle.http_flow.specs.Making.{PartGives}
use Rattle.http_flow.proofs.MakingLemmas.{could-make, could-make-some}
use Rattle.http_flow.proofs.http_flow_future.HttpFlowFutureFuture.poll.Goals as goal

pub returns-in-Ready-Err-advance_some-clause-value : goal.returns-in-Ready-Err-advance_some-clause-value
returns-in-Ready-Err-advance_some-clause-value g c =
    let expect = rw c.in-Ready-Ok.field-0-is at c.in-Ready-Ok.ensures.advances in
    (could-make g.X.Future.Future.gives c.args.self.now.parts.expect c.advance.new.self expect.0 expect.1, search rules)

pub returns-in-Ready-Err-advance-clause-value : goal.returns-in-Ready-Err-advance-clause-value
returns-in-Ready-Err-advance-clause-value g c =
    let parts = c.args.self.now.parts in
    let expect = rw c.in-Ready-Ok.field-0-is at c.in-Ready-Ok.ensures.advances in
    let upgrade = rw c.in-Ready-Ok-advance_some.field-0-is at c.in-Ready-Ok-advance_some.ensures.advances in (
      could-make g.X.Future.Future.gives parts.expect c.advance.new.self expect.0 expect.1,
      could-make-some g.U.Future.Future.gives (PartGives g.S.Future.Future.gives parts.service) (PartGives g.X.Future.Future.gives parts.expect)
          parts.upgrade c.advance_some.new.part upgrade.0 upgrade.1,
      search rules,
    )
