use Rattle.std.proofs.Common.{rules}
use Rattle.service_combine.proofs.MeaningLemmas.{Follows-within}
use Rattle.service_combine.proofs.PollLemmas.{IfReady-more, OnPending-more}
use Rattle.service_combine.proofs.then_response.ThenServiceResponseFuture.poll.Goals as goal

pub returns-in-Pending-clause-polls : goal.returns-in-Pending-clause-polls
returns-in-Pending-clause-polls g c = record {
  value = search rules;
  again = search rules;
  same = rw c.in-First.is (Follows-within _ _ _ c.in-Pending.ensures.same);
  registered = search rules;
  kept = search rules;
}

pub returns-in-Ready-clause-polls : goal.returns-in-Ready-clause-polls
returns-in-Ready-clause-polls g c =
    let second = g.met.B.Service.begun_gives _ _ _ (rw c.deref.ensures at c.call.ensures) in
    let polled = c.poll-polled.ensures in
    record {
      value = rw c.in-First.is (IfReady-more c.poll-polled.result _ _ (rw c.new-second.ensures.future at polled.value) (λ x given. record {
        value = c.in-Ready.result;
        comes = search rules;
        holds = second.1 x given;
      }));
      again = polled.again;
      same = OnPending-more c.poll-polled.result _ _ polled.same (λ same. rw c.in-First.is (λ x given. record {
        value = c.in-Ready.result;
        comes = search rules;
        holds = second.1 x (rw c.new-second.ensures.future at (same x given));
      }));
      registered = polled.registered;
      kept = search rules;
    }
