use Rattle.std.proofs.Common.{rules, refl, inl, inr, Ok, Err}
use Rattle.service_combine.proofs.MeaningLemmas.{Follows-within}
use Rattle.service_combine.proofs.map_err_future.MapErrFutureFuture.poll.Goals as goal

pub returns-in-Pending-clause-polls : goal.returns-in-Pending-clause-polls
returns-in-Pending-clause-polls g c = record {
  value = search rules;
  again = search rules;
  same = rw c.in-Waiting.is (Follows-within _ _ _ c.in-Pending.ensures.same);
  registered = search rules;
  kept = search rules;
}

pub returns-in-Ready-Ok-clause-polls : goal.returns-in-Ready-Ok-clause-polls
returns-in-Ready-Ok-clause-polls g c = record {
  value = rw c.in-Waiting.is (record { value = Ok c.in-Ready-Ok.value; comes = search rules; holds = inl (_, refl, refl) });
  again = search rules;
  same = search rules;
  registered = search rules;
  kept = search rules;
}

pub returns-in-Ready-Err-clause-polls : goal.returns-in-Ready-Err-clause-polls
returns-in-Ready-Err-clause-polls g c = record {
  value = rw c.in-Waiting.is (record { value = Err c.in-Ready-Err.e; comes = search rules; holds = inr (_, _, refl, refl, search rules) });
  again = search rules;
  same = search rules;
  registered = search rules;
  kept = search rules;
}
