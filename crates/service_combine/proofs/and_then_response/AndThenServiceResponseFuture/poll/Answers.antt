use Rattle.std.proofs.Common.{rules, refl, inl, inr, Ok, Err}
use Rattle.service_combine.proofs.MeaningLemmas.{Follows-within}
use Rattle.service_combine.proofs.PollLemmas.{IfReady-more, OnPending-more}
use Rattle.service_combine.proofs.and_then_response.AndThenServiceResponseFuture.poll.Goals as goal

pub returns-in-Pending-clause-polls : goal.returns-in-Pending-clause-polls
returns-in-Pending-clause-polls g c = record {
  value = search rules;
  again = search rules;
  same = rw c.in-First.is (Follows-within _ _ _ c.in-Pending.ensures.same);
  registered = search rules;
  kept = search rules;
}

pub returns-in-Ready-Err-clause-polls : goal.returns-in-Ready-Err-clause-polls
returns-in-Ready-Err-clause-polls g c = record {
  value = rw c.in-First.is (record { value = Err c.in-Ready-Err.e; comes = search rules; holds = inr (_, refl, refl) });
  again = search rules;
  same = search rules;
  registered = search rules;
  kept = search rules;
}

pub returns-in-Ready-Ok-clause-polls : goal.returns-in-Ready-Ok-clause-polls
returns-in-Ready-Ok-clause-polls g c =
    let second = g.met.B.Service.begun_gives _ _ _ (rw c.deref.ensures at c.call.ensures) in
    let polled = c.poll-polled.ensures in
    record {
      value = rw c.in-First.is (IfReady-more c.poll-polled.result _ _ (rw c.new-second.ensures.future at polled.value) (λ x given. record {
        value = Ok c.in-Ready-Ok.value;
        comes = search rules;
        holds = inl (_, refl, second.1 x given);
      }));
      again = polled.again;
      same = OnPending-more c.poll-polled.result _ _ polled.same (λ same. rw c.in-First.is (λ x given. record {
        value = Ok c.in-Ready-Ok.value;
        comes = search rules;
        holds = inl (_, refl, second.1 x (rw c.new-second.ensures.future at (same x given)));
      }));
      registered = polled.registered;
      kept = search rules;
    }

pub returns-in-Second-clause-waited : goal.returns-in-Second-clause-waited
returns-in-Second-clause-waited g c = search rules
