use Rattle.std.proofs.Common.{rules, refl}
use Rattle.service_combine.proofs.PollLemmas.{IfReady-more, OnPending-more, turned-pending, turned-value}
use Rattle.service_combine.proofs.StageLemmas.{AwaitsReady-within, ready-from}
use Rattle.service_combine.proofs.made_ready.MadeReadyFuture.poll.Goals as goal

pub returns-in-Ready-Ok-clause-polls : goal.returns-in-Ready-Ok-clause-polls
returns-in-Ready-Ok-clause-polls g c =
    let polled = c.poll-polled.ensures in
    let from = rw c.in-Ready-Ok.field-0-is at c.in-Ready-Ok.ensures.value in
    record {
      value = rw c.in-Making.is (IfReady-more c.turned.result _ _
          (turned-value _ _ c.poll-polled.result _ c.turned.ensures (rw c.new-ready.ensures.future at polled.value))
          (ready-from _ g.S.Service.may_ready (g.X.Future.gives c.in-Making.future.future) c.in-Ready-Ok.service _ refl from _
          (λ x given. given)));
      again = turned-pending _ _ c.poll-polled.result _ c.turned.ensures polled.again;
      same = OnPending-more c.turned.result _ _ (turned-pending _ _ c.poll-polled.result _ c.turned.ensures polled.same)
          (λ same. rw c.in-Making.is
          (ready-from _ g.S.Service.may_ready (g.X.Future.gives c.in-Making.future.future) c.in-Ready-Ok.service _ refl from _
          (rw c.new-ready.ensures.future at same)));
      registered = turned-pending _ _ c.poll-polled.result _ c.turned.ensures polled.registered;
      kept = search rules;
    }

pub returns-in-Readying-clause-polls : goal.returns-in-Readying-clause-polls
returns-in-Readying-clause-polls g c =
    let polled = c.poll-in-Readying in
    record {
      value = rw c.in-Readying.is (turned-value _ _ polled.result _ c.turned-in-Readying.ensures polled.ensures.value);
      again = turned-pending _ _ polled.result _ c.turned-in-Readying.ensures polled.ensures.again;
      same = OnPending-more c.turned-in-Readying.result _ _
          (turned-pending _ _ polled.result _ c.turned-in-Readying.ensures polled.ensures.same)
          (λ same. rw c.in-Readying.is (AwaitsReady-within _ _ _ same));
      registered = turned-pending _ _ polled.result _ c.turned-in-Readying.ensures polled.ensures.registered;
      kept = search rules;
    }
