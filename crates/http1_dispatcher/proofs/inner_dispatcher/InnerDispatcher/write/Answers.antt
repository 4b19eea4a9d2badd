use Rattle.std.proofs.Common.{refl}
use Rattle.http1_dispatcher.proofs.GoingSteps.{going_wrote, flush_exits, closing_ends}
use Rattle.http1_dispatcher.proofs.inner_dispatcher.InnerDispatcher.write.Goals as goal

pub returns-in-Pending-clause-turns : goal.returns-in-Pending-clause-turns
returns-in-Pending-clause-turns g c = (
  going_wrote _ _ _ _ _ _ _ c.args.self.now.exchange (record c.args.self.now.exchange { out = c.flush.new.out }) _ refl refl
      c.flush.ensures.flushed c.in-Pending.ensures.answer.1 c.requires,
  c.in-Pending.ensures.answer.0,
  c.in-Pending.ensures.armed,
)

pub returns-in-Ready-Out-clause-turns : goal.returns-in-Ready-Out-clause-turns
returns-in-Ready-Out-clause-turns g c =
    flush_exits _ _ _ _ _ _ _ c.args.self.now.exchange (record c.args.self.now.exchange { out = c.flush.new.out }) _ _ c.flush.ensures.flushed
    (rw c.in-Ready-Out.field-0-is at c.in-Ready-Out.ensures.answer) c.requires

pub returns-in-Reading-clause-turns : goal.returns-in-Reading-clause-turns
returns-in-Reading-clause-turns g c =
    let a = rw c.in-Ready-On.field-0-is at c.in-Ready-On.ensures.answer in (
      going_wrote _ _ _ _ _ _ _ c.args.self.now.exchange (record c.args.self.now.exchange { out = c.flush.new.out }) _ refl refl
          c.flush.ensures.flushed a.1 c.requires,
      a.0,
      λ n. rw c.in-Reading.is (rw c.in-Reading.is at n),
      a.2,
    )

pub returns-in-Asking-clause-turns : goal.returns-in-Asking-clause-turns
returns-in-Asking-clause-turns g c =
    let a = rw c.in-Ready-On.field-0-is at c.in-Ready-On.ensures.answer in (
      going_wrote _ _ _ _ _ _ _ c.args.self.now.exchange (record c.args.self.now.exchange { out = c.flush.new.out }) _ refl refl
          c.flush.ensures.flushed a.1 c.requires,
      a.0,
      λ n. rw c.in-Asking.is (rw c.in-Asking.is at n),
      a.2,
    )

pub returns-in-Awaiting-clause-turns : goal.returns-in-Awaiting-clause-turns
returns-in-Awaiting-clause-turns g c =
    let a = rw c.in-Ready-On.field-0-is at c.in-Ready-On.ensures.answer in (
      going_wrote _ _ _ _ _ _ _ c.args.self.now.exchange (record c.args.self.now.exchange { out = c.flush.new.out }) _ refl refl
          c.flush.ensures.flushed a.1 c.requires,
      a.0,
      λ n. rw c.in-Awaiting.is (rw c.in-Awaiting.is at n),
      a.2,
    )

pub returns-in-Calling-clause-turns : goal.returns-in-Calling-clause-turns
returns-in-Calling-clause-turns g c =
    let a = rw c.in-Ready-On.field-0-is at c.in-Ready-On.ensures.answer in (
      going_wrote _ _ _ _ _ _ _ c.args.self.now.exchange (record c.args.self.now.exchange { out = c.flush.new.out }) _ refl refl
          c.flush.ensures.flushed a.1 c.requires,
      a.0,
      λ n. rw c.in-Calling.is (rw c.in-Calling.is at n),
      a.2,
    )

pub returns-in-Upgrading-clause-turns : goal.returns-in-Upgrading-clause-turns
returns-in-Upgrading-clause-turns g c =
    let a = rw c.in-Ready-On.field-0-is at c.in-Ready-On.ensures.answer in (
      going_wrote _ _ _ _ _ _ _ c.args.self.now.exchange (record c.args.self.now.exchange { out = c.flush.new.out }) _ refl refl
          c.flush.ensures.flushed a.1 c.requires,
      record { out = a.0; upgrades = rw c.in-Upgrading.is tt },
    )

pub returns-in-Closing-clause-turns : goal.returns-in-Closing-clause-turns
returns-in-Closing-clause-turns g c =
    let a = rw c.in-Ready-On.field-0-is at c.in-Ready-On.ensures.answer in
    closing_ends _ _ _ _ _ _ (record c.args.self.now.exchange { out = c.flush.new.out }) _ a.0 c.in-Closing.is
    (going_wrote _ _ _ _ _ _ _ c.args.self.now.exchange (record c.args.self.now.exchange { out = c.flush.new.out }) _ refl refl
    c.flush.ensures.flushed a.1 c.requires)
